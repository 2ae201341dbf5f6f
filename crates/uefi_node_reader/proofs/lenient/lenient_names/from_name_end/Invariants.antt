use Rattle.std.proofs.Common.{◌≡◌, drop, length}
use Rattle.std.specs.Option.{option_map}
use Rattle.uefi_node_reader.specs.LenientNodes.{name_end}
use Rattle.uefi_node_reader.proofs.lenient.lenient_names.from_name_end.Given as goal

abbrev pub invariant-bytes : goal.invariant-bytes
invariant-bytes g l =
    option_map (λ place. drop place (g.T.Text.bytes l.rest)) (name_end (g.T.Text.bytes l.rest))
    ≡ option_map (λ place. drop place (g.T.Text.bytes l.fn.text)) (name_end (g.T.Text.bytes l.fn.text))

abbrev pub decreases-bytes : goal.decreases-bytes
decreases-bytes g l = length (g.T.Text.bytes l.rest)
