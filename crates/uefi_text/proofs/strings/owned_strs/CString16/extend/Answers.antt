-- The characters so far are those of a run of the iterator.
use Rattle.std.proofs.Common.{◌≡◌, ℕ, ◌<◌, ◌∙◌, List, [], ◌∷◌, ◌++◌, append_assoc, length, take, ap, sym, refl, rules, arith}
use Rattle.std.specs.Iterator.Runs.{SomeRun}
use Rattle.std.proofs.iter.runs.Made.{run_of_exit, run_of_turn}
use Rattle.std.proofs.Math.Seq.{take-append_seam}
use Rattle.uefi_text.proofs.strings.owned_strs.CString16.extend.Goals as goal

pub returns-in_err-push-clause-err : goal.returns-in_err-push-clause-err
returns-in_err-push-clause-err g c =
    let it = c.into_iter-character-iterator in
    let so_far = c.loop-character in
    let xs = so_far.yielded in
    let made =
    run_of_turn g.I.Iterator.next_gives it.result xs so_far.character-iterator so_far.yielded_by c.in-Some.character c.next.new.self c.in-Some.ensures.steps in
    let front : xs ≡ take (length xs) made.0.items = rw (made.2.0, take-append_seam) refl in
    let added : SomeRun g.I.Iterator.next_gives c.args.characters (λ run. (k : ℕ) × (k < run.len) × (c.push.new.self ≡ c.args.self.now ++ take k run.items)) =
    (made.0, made.1 ∙ it.ensures.into_iter_gives, (length xs, omega (arith, made.2.1), c.in_err-push.ensures.err ∙ so_far.invariant ∙ ap (λ (ys : List ℕ). c.args.self.now ++ ys) front)) in
    search rules

pub returns-clause-ok : goal.returns-clause-ok
returns-clause-ok g c =
    let it = c.into_iter-character-iterator in
    let all = c.loop-character in
    let made = run_of_exit g.I.Iterator.next_gives it.result all.yielded all.character-iterator all.yielded_by c.next.new.self c.in-None.ensures.steps in
    (made.0, made.1 ∙ it.ensures.into_iter_gives, made.2, all.invariant ∙ ap (λ (ys : List ℕ). c.args.self.now ++ ys) (sym made.3.0))

pub loop-character-preserved : goal.loop-character-preserved
loop-character-preserved g c =
    c.in_ok-push.ensures.ok ∙ ap (λ (ys : List ℕ). ys ++ c.in-Some.character ∷ []) c.loop-character.invariant ∙ append_assoc c.args.self.now c.loop-character.yielded _
