use Rattle.uefi_device_path.proofs.PrintedReading.{never_both, stops_once}
use Rattle.uefi_device_path.proofs.laws.stopped_texts.Goals as goal

pub returns-clause-once : goal.returns-clause-once
returns-clause-once c = stops_once c.styled_texts.ensures.stop_is_read

pub returns-clause-never_both : goal.returns-clause-never_both
returns-clause-never_both c = never_both c.styled_texts.ensures.printed c.styled_texts.ensures.stop_is_read
