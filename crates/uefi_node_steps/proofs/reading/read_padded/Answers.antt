use Rattle.std.proofs.Common.{◌-◌, ◌++◌, ◌∙◌, ℕ, List, length, arith, ap}
use Rattle.std.proofs.Math.ListN.{replicate}
use Rattle.std.specs.Prelude.{Ok, Err}
use Rattle.uefi_node_steps.proofs.Fills.{clear_length, padded_few, padded_many}
use Rattle.uefi_node_steps.proofs.reading.read_padded.Goals as goal

pub overflow_sub-count : goal.overflow_sub-count
overflow_sub-count g c = omega (arith, clear_length c.args.stop (g.T.Text.codes c.args.text), c.len.ensures, c.len-2.ensures, ap length c.read_clear-rest.ensures.rest)

pub returns-then-count-gt32 : goal.returns-then-count-gt32
returns-then-count-gt32 g c =
    ap (λ s. Err s) c.stop_at.ensures ∙ padded_many c.args.stop (g.S.Sink.content c.args.tail.now) (g.T.Text.codes c.args.text) (c.len.result - c.len-2.result)
    (omega (arith, clear_length c.args.stop (g.T.Text.codes c.args.text), c.len.ensures, c.len-2.ensures, ap length c.read_clear-rest.ensures.rest)) c.if-count-gt32.true

pub returns : goal.returns
returns g c =
    let zeros : List ℕ = replicate (32 - (c.len.result - c.len-2.result)) 0 in
    let put = c.put_zeros.ensures ∙ ap (λ (l : List ℕ). l ++ zeros) c.read_clear-rest.ensures.content in
    (λ i. Ok (put i, c.read_clear-rest.ensures.rest i)) ∙ padded_few c.args.stop (g.S.Sink.content c.args.tail.now) (g.T.Text.codes c.args.text) (c.len.result - c.len-2.result)
    (omega (arith, clear_length c.args.stop (g.T.Text.codes c.args.text), c.len.ensures, c.len-2.ensures, ap length c.read_clear-rest.ensures.rest)) c.if-count-gt32.false
