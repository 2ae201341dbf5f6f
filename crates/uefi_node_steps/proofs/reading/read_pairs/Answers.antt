use Rattle.std.proofs.Common.{◌≡◌, ◌+◌, ◌-◌, ℕ, List, false, true, length, sym, subst, ◌∙◌, arith}
use Rattle.std.proofs.lemmas.Result.{err_from_is_err_and}
use Rattle.uefi_node_steps.specs.Leaves.{has_pair, many, many_read, pair}
use Rattle.uefi_node_steps.specs.Views.{after_these}
use Rattle.uefi_node_steps.proofs.Fills.{more_err, more_ok, no_more}
use Rattle.uefi_node_steps.proofs.reading.read_pairs.Goals as goal

pub returns-then-not-has_digit : goal.returns-then-not-has_digit
returns-then-not-has_digit g c =
    let none : has_pair (g.T.Text.codes c.pairs.rest) ≡ false = cc (c.has_digit.ensures, c.if-not-has_digit.true) in
    sym (no_more has_pair pair (g.S.Sink.content c.pairs.tail) (length (g.T.Text.codes c.args.text) - c.pairs.counter) (g.T.Text.codes c.pairs.rest) none) ∙ c.pairs.invariant

pub returns-in_err-byte : goal.returns-in_err-byte
returns-in_err-byte g c =
    let some : has_pair (g.T.Text.codes c.pairs.rest) ≡ true = cc (c.has_digit.ensures, c.if-not-has_digit.false) in
    let none = sym (rw c.in_err-byte.was at c.pair.ensures) in
    let e = more_err has_pair pair (g.S.Sink.content c.pairs.tail) (length (g.T.Text.codes c.args.text)) c.pairs.counter (g.T.Text.codes c.pairs.rest) _ (omega arith) some none in
    let p = err_from_is_err_and c.from_residual.result c.from_residual.ensures.1 in rw (p.1, p.2) (sym e ∙ c.pairs.invariant)

pub pairs-preserved : goal.pairs-preserved
pairs-preserved g c =
    let some : has_pair (g.T.Text.codes c.pairs.rest) ≡ true = cc (c.has_digit.ensures, c.if-not-has_digit.false) in
    let read = sym (rw c.in_ok-byte.was at c.pair.ensures) in
    let n : ℕ = length (g.T.Text.codes c.args.text) in
    let more = more_ok has_pair pair (g.S.Sink.content c.pairs.tail) n c.pairs.counter (g.T.Text.codes c.pairs.rest) c.in_ok-byte.byte (g.T.Text.codes c.in_ok-byte.others) (omega arith) some read in
    subst {A = List ℕ} (λ (f : List ℕ). after_these f (many_read has_pair pair (n - (c.pairs.counter + 1)) (g.T.Text.codes c.in_ok-byte.others))
    ≡ after_these (g.S.Sink.content c.args.tail.now) ((many has_pair pair).read (g.T.Text.codes c.args.text)))
    (sym c.put.ensures) (sym more ∙ c.pairs.invariant)
