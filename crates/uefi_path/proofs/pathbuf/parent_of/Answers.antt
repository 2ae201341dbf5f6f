-- The units that are added are the text of the parent, and its NUL stands already.
use Rattle.std.proofs.Common.{◌≡◌, ◌++◌, ℕ, IfOk, List, Some, ap, length, subst, sym, take, ◌∙◌}
use Rattle.std.proofs.Math.Seq.{take-append_seam}
use Rattle.uefi_text.proofs.SunkUnits.{sunk_zeros}
use Rattle.uefi_path.specs.Separators.{with_separators}
use Rattle.uefi_path.proofs.Drafts.{sunk_parent}
use Rattle.uefi_path.proofs.pathbuf.parent_of.Goals as goal

-- all units of a vector, where all were written
all_written : (n : ℕ) (new others text : List ℕ) → length new ≡ n → new ≡ text → take n (new ++ others) ≡ text
all_written n new others text size is = ap (λ n. take n (new ++ others)) (sym size) ∙ take-append_seam new others ∙ is

pub unwrap-string-requires : goal.unwrap-string-requires
unwrap-string-requires g c =
    let made = c.in-Some.ensures in
    let again = sunk_parent _ _ _ _ _ made.is c.sink_parent.ensures in
    let written = sunk_zeros made.parent _ _ _ _ again.1 (c.deref_mut.ensures.value ∙ c.in_ok-units.ensures) made.long in
    (c.try_from_vec.ensures.made made.parent made.is_text
    (all_written _ _ _ _ (c.sink_parent.auto.buffer ∙ c.deref_mut.ensures.len) written)).0

pub returns-clause-ok : goal.returns-clause-ok
returns-clause-ok g c =
    let made = c.in-Some.ensures in
    let again = sunk_parent _ _ _ _ _ made.is c.sink_parent.ensures in
    let written = sunk_zeros made.parent _ _ _ _ again.1 (c.deref_mut.ensures.value ∙ c.in_ok-units.ensures) made.long in
    let string =
    (c.try_from_vec.ensures.made made.parent made.is_text
    (all_written _ _ _ _ (c.sink_parent.auto.buffer ∙ c.deref_mut.ensures.len) written)).1 in
    let text = subst (λ r. IfOk r (λ string. string ≡ made.parent)) c.unwrap-string.ensures string in
    ap Some (c.in_ok-from_string.ensures ∙ ap with_separators text ∙ made.plain) ∙ sym made.is
