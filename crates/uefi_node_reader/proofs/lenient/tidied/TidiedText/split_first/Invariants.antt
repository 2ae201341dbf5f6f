use Rattle.std.proofs.Common.{◌≡◌, length}
use Rattle.uefi_node_reader.specs.LenientCalls.{tidied_rest}
use Rattle.uefi_node_reader.proofs.lenient.tidied.TidiedText.split_first.Given as goal

abbrev pub invariant-blanks : goal.invariant-blanks
invariant-blanks g l = tidied_rest l.fn.self.is_open (g.T.Text.bytes l.rest) ≡ tidied_rest l.fn.self.is_open (g.T.Text.bytes l.fn.self.text)

abbrev pub decreases-blanks : goal.decreases-blanks
decreases-blanks g l = length (g.T.Text.bytes l.rest)
