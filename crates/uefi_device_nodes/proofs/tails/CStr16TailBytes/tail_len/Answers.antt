use Rattle.std.proofs.Common.{◌∙◌, ap, sym, ◌*◌, length}
use Rattle.uefi_text.proofs.UnitBytes.{length-unit_bytes}
use Rattle.uefi_device_nodes.proofs.tails.CStr16TailBytes.tail_len.Goals as goal

pub returns-clause-length : goal.returns-clause-length
returns-clause-length c = ap (λ us. 2 * length us) c.to_u16_slice_with_nul.ensures ∙ sym (length-unit_bytes _)
