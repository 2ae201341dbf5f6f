use Rattle.std.proofs.Common.{◌∙◌, ap, sym, ◌*◌, length}
use Rattle.uefi_text.proofs.UnitBytes.{length-unit_bytes}
use Rattle.uefi_device_nodes.proofs.tails.CStr16TailBytes.write_tail.Goals as goal

pub split-requires : goal.split-requires
split-requires c = c.requires ∙ length-unit_bytes _ ∙ ap (λ us. 2 * length us) (sym c.to_u16_slice_with_nul.ensures)
