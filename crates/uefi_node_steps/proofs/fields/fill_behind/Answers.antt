use Rattle.std.proofs.Common.{◌+◌, ◌-◌, [], ◌∷◌, ℕ, List, length, take, sym, ap, ◌∙◌, arith}
use Rattle.std.proofs.lemmas.List.{take_more_set}
use Rattle.std.proofs.lemmas.Result.{err_from_is_err_and}
use Rattle.uefi_node_steps.specs.Leaves.{behind_each, pairs}
use Rattle.uefi_node_steps.specs.Views.{after_these}
use Rattle.uefi_node_steps.proofs.Fills.{behind_err, behind_ok}
use Rattle.uefi_node_steps.proofs.fields.fill_behind.Goals as goal

pub returns-in_err-byte : goal.returns-in_err-byte
returns-in_err-byte g c =
    let none = sym (rw c.in_err-byte.was at c.next_byte.ensures) in
    let e = behind_err (c.args.letter ∷ []) (take c.loop-place.place c.loop-place.found) (length c.args.found.now) c.loop-place.place
    (g.T.Text.codes c.loop-place.rest) _ c.loop-place-test.true none in
    let p = err_from_is_err_and c.from_residual.result c.from_residual.ensures.1 in rw (p.1, p.2) (sym e ∙ c.loop-place.invariant)

pub loop-place-preserved : goal.loop-place-preserved
loop-place-preserved g c =
    let some = sym (rw c.in_ok-byte.was at c.next_byte.ensures) in
    let n : ℕ = length c.args.found.now in
    ap (λ (f : List ℕ). after_these f ((behind_each (c.args.letter ∷ []) 1 (pairs 1) (n - (c.loop-place.place + 1))).read (g.T.Text.codes c.in_ok-byte.after)))
    (take_more_set c.loop-place.found c.loop-place.place c.in_ok-byte.byte (omega arith))
    ∙ sym (behind_ok (c.args.letter ∷ []) (take c.loop-place.place c.loop-place.found) n c.loop-place.place (g.T.Text.codes c.loop-place.rest) c.in_ok-byte.byte
    (g.T.Text.codes c.in_ok-byte.after) c.loop-place-test.true some)
    ∙ c.loop-place.invariant
