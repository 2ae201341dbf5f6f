-- Each pair of bytes is a unit.
use Rattle.std.proofs.Common.{◌∙◌, ◌/◌, ap, All, length, position, arith}
use Rattle.std.proofs.lemmas.List.Elements.{All-from_get_or}
use Rattle.uefi_text.specs.Packed.{IsByte, little_endian}
use Rattle.uefi_text.proofs.Packing.{position-chunks}
use Rattle.uefi_text.proofs.UnitBytes.{small_items}
use Rattle.uefi_text.proofs.scan.find_first_packed.Goals as goal

pub returns-clause-place : goal.returns-clause-place
returns-clause-place g c =
    let p = g.C.Class.holds in
    let bytes = c.args.bytes.now in
    c.find_first_soon.ensures ∙ ap (position (λ pair. p (little_endian pair))) c.as_chunks.ensures.front ∙ position-chunks p 2 (length bytes / 2) bytes

pub returns-clause-units : goal.returns-clause-units
returns-clause-units g c k =
    let bytes = c.args.bytes.now in
    let are_bytes : All IsByte bytes = All-from_get_or IsByte bytes 0 (λ k h. omega (arith, c.type_inv.bytes k)) in
    small_items (length bytes / 2) bytes are_bytes k
