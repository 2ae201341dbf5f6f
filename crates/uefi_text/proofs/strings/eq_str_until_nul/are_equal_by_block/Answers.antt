-- What follows the characters that both begin with decides.
use Rattle.std.proofs.Common.{◌≡◌, ◌↔◌, ◌-◌, ◌++◌, List, ℕ, IsTrue, arith, drop, length, subst, sym, take}
use Rattle.std.specs.Str.{chars}
use Rattle.std.proofs.lemmas.List.{length-drop, take-append-drop, take_all}
use Rattle.uefi_text.specs.EqStrUntilNul.{IsEqualUntilNul}
use Rattle.uefi_text.proofs.Prefixes.{equal_after_front}
use Rattle.uefi_text.proofs.strings.eq_str_until_nul.are_equal_by_block.Goals as goal

pub returns : goal.returns
returns c =
    let units = c.args.units.now in
    let n = c.same_front-len.result.0 in
    let cs = chars c.same_front-len.result.1.now in
    let answer = c.are_equal_by_unit.result in
    let whole : take (length units - n) (drop n units) ≡ drop n units = take_all (length units - n) (drop n units) (omega (arith, length-drop n units)) in
    let rest : IsTrue answer ↔ IsEqualUntilNul (drop n units) cs = rw whole at c.are_equal_by_unit.ensures in
    let all = equal_after_front answer (take n units) (drop n units) cs c.same_front-len.ensures.no_nul rest in
    subst (λ (us : List ℕ). IsTrue answer ↔ IsEqualUntilNul us (chars c.args.other.now)) (take-append-drop n units)
    (subst (λ (ds : List ℕ). IsTrue answer ↔ IsEqualUntilNul (take n units ++ drop n units) ds) (sym c.same_front-len.ensures.same) all)
