-- One element more, which is counted where it is in the class.
use Rattle.std.proofs.Common.{◌≡◌, ◌<◌, ◌+◌, Bool, true, false, get_or, length, take, List, ℕ, ◌≤◌, ap, arith, length-take-le, sym, ◌∙◌}
use Rattle.std.specs.List.{count_by}
use Rattle.std.proofs.lemmas.List.Sums.{count_by-le-length, count_by_more_no, count_by_more_yes}
use mir.Val.{bool_byte}
use Rattle.uefi_text.proofs.scan.count_in_block.Goals as goal

module _ {X : Type 0} (p : X → Bool) (xs : List X) (i : ℕ) (x : X) (inside : i < length xs) (is : x ≡ get_or xs i x) where
  counted : (b : Bool) → b ≡ p x → count_by p (take i xs) + bool_byte b ≡ count_by p (take (i + 1) xs)
  counted true e = sym (count_by_more_yes p xs i x inside (sym (ap p is) ∙ sym e))
  counted false e = omega (arith, count_by_more_no p xs i x inside (sym (ap p is) ∙ sym e))

at_most_one : (b : Bool) → bool_byte b ≤ 1
at_most_one true = omega arith
at_most_one false = omega arith

pub loop-element-preserved : goal.loop-element-preserved
loop-element-preserved g c =
    let p = g.C.Class.holds in
    let block = c.args.block.now in
    let i = c.loop-element.element-index in
    ap (λ n. n + c.from-count.result) c.loop-element.invariant ∙ ap (λ n. count_by p (take i block) + n) c.from-count.ensures
    ∙ counted p block i c.element-item.result c.loop-element-test.true c.element-item.is c.holds.result c.holds.ensures

pub overflow_add-count : goal.overflow_add-count
overflow_add-count g c =
    let i = c.loop-element.element-index in
    let so_far = count_by-le-length g.C.Class.holds (take i c.args.block.now) in
    let taken = length-take-le i c.args.block.now (omega (arith, c.loop-element-test.true)) in
    let one = at_most_one c.holds.result in
    omega (arith, so_far, taken, c.loop-element.invariant, one, c.from-count.ensures, c.requires, c.loop-element-test.true)
