use Rattle.std.proofs.Common.{◌≡◌, ◌-◌, length}
use Rattle.uefi_node_steps.specs.Leaves.{has_pair, many, many_read, pair}
use Rattle.uefi_node_steps.specs.Views.{after_these}
use Rattle.uefi_node_steps.proofs.reading.read_pairs.Given as goal

abbrev pub invariant-pairs : goal.invariant-pairs
invariant-pairs g l = after_these (g.S.Sink.content l.tail) (many_read has_pair pair (length (g.T.Text.codes l.fn.text) - l.counter) (g.T.Text.codes l.rest))
    ≡ after_these (g.S.Sink.content l.initial.tail) ((many has_pair pair).read (g.T.Text.codes l.fn.text))
