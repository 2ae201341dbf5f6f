use Rattle.std.proofs.Common.{◌≡◌, drop}
use Rattle.uefi_node_steps.specs.Nodes.{printed_read}
use Rattle.uefi_node_steps.proofs.exact.after_printed.Given as goal

abbrev pub invariant-loop-letter : goal.invariant-loop-letter
invariant-loop-letter g l = printed_read (drop l.letter-index l.letters) (g.T.Text.codes l.rest) ≡ printed_read l.letters (g.T.Text.codes l.fn.text)
