-- Bytes of an even number are those of their units.
use Rattle.std.proofs.Common.{◌≡◌, ◌%◌, ◌∙◌, ap, All, length, arith}
use Rattle.std.proofs.lemmas.List.Elements.{All-from_get_or}
use Rattle.uefi_text.specs.Packed.{IsByte}
use Rattle.uefi_text.specs.UnitBytes.{unit_bytes}
use Rattle.uefi_text.proofs.UnitBytes.{unit_bytes-units_of_bytes}
use Rattle.uefi_text.proofs.unaligned_slice.UnalignedSlice+u16.from_unit_bytes.Goals as goal

pub returns-then-bytes-eq0-clause-bytes : goal.returns-then-bytes-eq0-clause-bytes
returns-then-bytes-eq0-clause-bytes c =
    let bytes = c.args.bytes.now in
    let are_bytes : All IsByte bytes = All-from_get_or IsByte bytes 0 (λ k h. omega (arith, c.type_inv.bytes k)) in
    let even : length bytes % 2 ≡ 0 = omega arith in
    ap unit_bytes c.new.ensures.items ∙ unit_bytes-units_of_bytes bytes even are_bytes
