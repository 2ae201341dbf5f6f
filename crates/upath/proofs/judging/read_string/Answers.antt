-- Bytes whose units are no string are refused, and all others encode a text.
use Rattle.std.proofs.Common.{◌≡◌, ◌%◌, ◌∙◌, ap, sym, None, length, inl, refl, rules}
use Rattle.uefi_text.specs.FromSliceWithNul.{with_nul_refusal}
use Rattle.uefi_text.specs.UnitBytes.{unit_bytes, units_of_bytes}
use Rattle.uefi_text.specs.Units.{nul_terminated, without_nul}
use Rattle.uefi_text.specs.Views.{items_of}
use Rattle.upath.proofs.judging.read_string.Goals as goal

pub returns-in-Ok-clause-ok : goal.returns-in-Ok-clause-ok
returns-in-Ok-clause-ok g c =
    ((c.in-Ok.ensures.is_text, sym c.in-Some.ensures.bytes ∙ ap unit_bytes (sym c.in-Ok.ensures.ok)), search rules)

pub returns-in-Err-OutOfMemory-clause-refusal : goal.returns-in-Err-OutOfMemory-clause-refusal
returns-in-Err-OutOfMemory-clause-refusal g c =
    let bytes = c.args.bytes.now in
    let items = items_of c.in-Some.units in
    let refused = c.in-Err-OutOfMemory in
    let string = refused.ensures.memory.0 refused.field-0-is in
    let even : length bytes % 2 ≡ 0 = c.in-Some.ensures.even.0 refl in
    let accepted : with_nul_refusal (units_of_bytes bytes) ≡ None =
    ap with_nul_refusal (sym c.in-Some.ensures.items) ∙ refused.ensures.unrefused refused.field-0-is in
    let same : bytes ≡ unit_bytes (nul_terminated (without_nul items)) =
    sym c.in-Some.ensures.bytes ∙ ap unit_bytes string.0 in
    rw (even, accepted) (without_nul items, (string.1, same), inl refl)
