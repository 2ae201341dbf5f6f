use Rattle.std.proofs.Common.{◌≡◌, ◌+◌, ◌-◌, ◌≤◌, ℕ, List, length, take, sym, ap, ◌∙◌, arith, Some, None}
use Rattle.std.proofs.lemmas.List.{take_all, take_more_set}
use Rattle.uefi_node_reader.proofs.ByteRuns.{go_on, next_read, read_from, step_end, step_none, step_some}
use Rattle.uefi_node_reader.proofs.exact.fields.fill.Goals as goal

pub returns-in_err-byte : goal.returns-in_err-byte
returns-in_err-byte g c =
    let none : next_read c.loop-place.place c.args.between.now (g.T.Text.bytes c.loop-place.rest) ≡ None = sym (rw c.in_err-byte.was at c.next_byte.ensures) in
    let e = step_none (take c.loop-place.place c.loop-place.found) c.loop-place.place (length c.args.found.now) c.args.between.now (g.T.Text.bytes c.loop-place.rest) c.loop-place-test.true none in
    rw c.from_residual.ensures (sym e ∙ c.loop-place.invariant)

pub loop-place-preserved : goal.loop-place-preserved
loop-place-preserved g c =
    let some : next_read c.loop-place.place
    c.args.between.now (g.T.Text.bytes c.loop-place.rest) ≡ Some (c.in_ok-byte.byte, (g.T.Text.bytes c.in_ok-byte.after_byte)) = sym (rw c.in_ok-byte.was at c.next_byte.ensures) in
    let place : ℕ = c.loop-place.place in
    let n : ℕ = length c.args.found.now in
    ap (λ (f : List ℕ). go_on f (read_from (place + 1) c.args.between.now (n - (place + 1)) (g.T.Text.bytes c.in_ok-byte.after_byte)))
    (take_more_set c.loop-place.found place c.in_ok-byte.byte (omega arith))
    ∙ sym (step_some (take place c.loop-place.found) place n c.args.between.now (g.T.Text.bytes c.loop-place.rest) c.in_ok-byte.byte
    (g.T.Text.bytes c.in_ok-byte.after_byte) c.loop-place-test.true some)
    ∙ c.loop-place.invariant

pub returns : goal.returns
returns g c =
    let place : ℕ = c.loop-place.place in
    let n : ℕ = length c.args.found.now in
    let past : n ≤ place = omega arith in
    let all = take_all place c.loop-place.found (omega arith) in
    (λ i. Some (sym all i, (g.T.Text.bytes c.loop-place.rest)))
    ∙ sym (step_end (take place c.loop-place.found) place n c.args.between.now (g.T.Text.bytes c.loop-place.rest) past) ∙ c.loop-place.invariant
