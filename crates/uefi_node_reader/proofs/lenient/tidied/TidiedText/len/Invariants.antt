use Rattle.std.proofs.Common.{◌≡◌, ◌+◌, ◌≤◌, length}
use Rattle.uefi_node_reader.proofs.KeptBytes.{kept}
use Rattle.uefi_node_reader.proofs.lenient.tidied.TidiedText.len.Given as goal

abbrev pub invariant-bytes : goal.invariant-bytes
invariant-bytes g l =
    (l.len + length (kept (g.T.Text.bytes l.rest)) ≡ length (kept (g.T.Text.bytes l.fn.self.text)))
    × (length (g.T.Text.bytes l.rest) + l.counter ≡ length (g.T.Text.bytes l.fn.self.text) + 1)
    × (l.len + 1 ≤ l.counter)
