use Rattle.uefi_device_path.proofs.PastedTexts.{quoted_is_read, slashed_is_read}
use Rattle.uefi_device_path.proofs.laws.pasted_texts.Goals as goal

pub returns : goal.returns
returns c = record { quoted = quoted_is_read c.styled_nodes_are_read.ensures.ends; slashed = slashed_is_read c.styled_nodes_are_read.ensures.ends }
