use Rattle.uefi_device_path.proofs.PrintedReading.{once}
use Rattle.uefi_device_path.proofs.laws.texts_once.Goals as goal

pub returns : goal.returns
returns c = once c.styled_texts.ensures.printed
