use Rattle.std.proofs.Common.{◌≡◌, ◌+◌, ◌≤◌, drop, length}
use Rattle.std.specs.Option.{option_map}
use Rattle.uefi_node_reader.specs.LenientNodes.{closing}
use Rattle.uefi_node_reader.proofs.lenient.lenient_names.from_closing.Given as goal

abbrev pub invariant-bytes : goal.invariant-bytes
invariant-bytes g l =
    (option_map (λ place. drop place (g.T.Text.bytes l.rest)) (closing l.depth (g.T.Text.bytes l.rest))
    ≡ option_map (λ place. drop place (g.T.Text.bytes l.fn.text)) (closing 0 (g.T.Text.bytes l.fn.text)))
    × (l.depth + length (g.T.Text.bytes l.rest) ≤ length (g.T.Text.bytes l.fn.text))

abbrev pub decreases-bytes : goal.decreases-bytes
decreases-bytes g l = length (g.T.Text.bytes l.rest)
