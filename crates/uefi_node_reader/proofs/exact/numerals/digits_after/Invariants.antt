use Rattle.std.proofs.Common.{◌≡◌, ◌+◌, length}
use Rattle.uefi_node_reader.specs.Numerals.{digits_after}
use Rattle.uefi_node_reader.proofs.exact.numerals.digits_after.Given as goal

abbrev pub invariant-digits : goal.invariant-digits
invariant-digits g l = digits_after l.base (l.last + 1) l.number (g.T.Text.bytes l.rest) ≡ digits_after l.base (l.last + 1) l.fn.first (g.T.Text.bytes l.fn.text)

abbrev pub decreases-digits : goal.decreases-digits
decreases-digits g l = length (g.T.Text.bytes l.rest)
