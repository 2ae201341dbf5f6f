use Rattle.std.proofs.Common.{◌∙◌}
use Rattle.uefi_text.specs.Units.{is_nul}
use Rattle.uefi_device_nodes.proofs.Places.{or_len}
use Rattle.uefi_device_nodes.proofs.field_texts.shown_texts.nul_place.Goals as goal

pub returns-clause-place : goal.returns-clause-place
returns-clause-place c = c.unwrap_or.ensures ∙ or_len is_nul c.args.bytes.now c.find_zero.result c.find_zero.ensures
