-- The first NUL ends the units that bytes begin with.
use Rattle.std.proofs.Common.{refl, ◌≡◌, ◌+◌, ◌*◌, sym, subst, arith, take}
use Rattle.std.proofs.lemmas.Grind.{common_steps}
use Rattle.uefi_text.specs.UnitBytes.{unit_bytes, units_of_bytes}
use Rattle.uefi_text.specs.Units.{IsNulTerminated}
use Rattle.uefi_text.specs.Views.{items_of}
use Rattle.uefi_text.proofs.PackedStrings.{IsNulTerminated-bytes, no_split, split_once}
use Rattle.uefi_text.proofs.unaligned_slice.UnalignedSlice+u16.split_until_nul.Goals as goal

pub returns-in_default-clause-accepts : goal.returns-in_default-clause-accepts
returns-in_default-clause-accepts c =
    (λ some. absurd (cc some), λ found. absurd (no_split c.args.bytes.now found.0 found.1 (grind (arith, common_steps)) found.2))

pub split_at-requires : goal.split_at-requires
split_at-requires c =
    let inside = (IsNulTerminated-bytes c.args.bytes.now c.in-Some.place (grind (arith, common_steps))).0 in
    grind (arith, common_steps, inside)

pub returns-clause-ok : goal.returns-clause-ok
returns-clause-ok c =
    let bytes = c.args.bytes.now in
    let place = c.in-Some.place in
    let found = IsNulTerminated-bytes bytes place (grind (arith, common_steps)) in
    let items : items_of c.unwrap.result ≡ units_of_bytes (take (2 * place + 2) bytes) = grind (arith, common_steps) in
    let front : unit_bytes (items_of c.unwrap.result) ≡ take (2 * place + 2) bytes = grind (arith, common_steps) in
    record { ends = subst IsNulTerminated (sym items) found.1; join = grind (arith, common_steps, front) }

pub returns-clause-only : goal.returns-clause-only
returns-clause-only c units rest other =
    split_once c.args.bytes.now (items_of c.unwrap.result) c.split_at.result.1.now units rest (returns-clause-ok c) other

pub returns-clause-accepts : goal.returns-clause-accepts
returns-clause-accepts c = (λ some. (items_of c.unwrap.result, c.split_at.result.1.now, returns-clause-ok c), λ found. refl)
