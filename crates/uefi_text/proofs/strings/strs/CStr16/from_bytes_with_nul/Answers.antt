-- Bytes of an even number are those of their units.
use Rattle.std.proofs.Common.{◌≡◌, ◌%◌, ◌∙◌, All, Err, List, ℕ, Ok, Result, get_or, length, refl, true, arith, ◌<◌}
use Rattle.std.specs.Option.{unwrap_or}
use Rattle.std.specs.Result.{IfOk}
use Rattle.std.proofs.lemmas.Result.{MatchResult-weaker}
use Rattle.std.proofs.lemmas.List.Elements.{All-from_get_or}
use Rattle.std.proofs.lemmas.Grind.{common_steps}
use Rattle.uefi_text.specs.Packed.{IsByte}
use Rattle.uefi_text.specs.FromSliceWithNul.{with_nul_refusal}
use Rattle.uefi_text.specs.UnitBytes.{ends_in_nul, unit_bytes_refusal}
use Rattle.uefi_text.specs.declared.errors.FromSliceWithNulError.TheVariants.{NotNulTerminated, OutOfMemory}
use Rattle.uefi_text.proofs.Accepting.{unit_bytes-memory}
use Rattle.uefi_text.proofs.UnitBytes.{unit_bytes-units_of_bytes}
use Rattle.uefi_text.specs.Views.{items_of}
use Rattle.uefi_text.proofs.strings.strs.CStr16.from_bytes_with_nul.Goals as goal

are_bytes : (bytes : List ℕ) → ((k : ℕ) → get_or bytes k 0 < 256) → All IsByte bytes
are_bytes bytes small = All-from_get_or IsByte bytes 0 (λ k h. small k)

pub returns-clause-ok : goal.returns-clause-ok
returns-clause-ok g c =
    let bytes = c.args.bytes.now in
    let ended : ends_in_nul bytes ≡ true = grind (arith, common_steps) in
    let even : length bytes % 2 ≡ 0 = grind (arith, common_steps) in
    let same = unit_bytes-units_of_bytes bytes even (are_bytes bytes (λ k. omega (arith, c.type_inv.bytes k))) in
    grind (arith, common_steps, same)

-- what holds of a value twice
both : {T E : Type 0} (r : Result T E) (P Q R : T → Type 0) → ((x : T) → P x → Q x → R x) → IfOk r P → IfOk r Q → IfOk r R
both (Ok x) P Q R all p q = all x p q
both (Err e) P Q R all p q = tt

pub returns-clause-encodes : goal.returns-clause-encodes
returns-clause-encodes g c =
    both c.to_cstring16.result _ _ _ (λ string is_text e. (is_text, e)) c.to_cstring16.ensures.is_text (returns-clause-ok g c)

pub returns-then-not-ends_in_nul-clause-memory : goal.returns-then-not-ends_in_nul-clause-memory
returns-then-not-ends_in_nul-clause-memory g c =
    let bytes = c.args.bytes.now in
    unit_bytes-memory bytes (are_bytes bytes (λ k. omega (arith, c.type_inv.bytes k))) NotNulTerminated (grind (arith, common_steps))

pub returns-clause-memory : goal.returns-clause-memory
returns-clause-memory g c =
    let bytes = c.args.bytes.now in
    let all_bytes = are_bytes bytes (λ k. omega (arith, c.type_inv.bytes k)) in
    let ended : ends_in_nul bytes ≡ true = grind (arith, common_steps) in
    let same : unwrap_or (with_nul_refusal (items_of c.new.result)) OutOfMemory ≡ unwrap_or (unit_bytes_refusal bytes) OutOfMemory =
    rw (ended, c.new.ensures.items) refl in
    MatchResult-weaker c.to_cstring16.result c.to_cstring16.ensures.refusal (λ x k. k) (λ error is. unit_bytes-memory bytes all_bytes error (is ∙ same))
