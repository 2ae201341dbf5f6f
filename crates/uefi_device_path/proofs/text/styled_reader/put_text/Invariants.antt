use Rattle.std.proofs.Common.{◌≡◌, List, false, length, true}
use Rattle.uefi_device_nodes.specs.Nodes.{Node}
use Rattle.uefi_device_path.specs.StyledReading.{follows_comma}
use Rattle.uefi_device_path.proofs.StyledReading.{Going}
use Rattle.uefi_device_path.proofs.text.styled_reader.put_text.Given as goal

abbrev pub invariant-nodes : goal.invariant-nodes
invariant-nodes g l = (nodes : List Node)
    × Going l.style (g.T.Text.bytes l.fn.text) nodes l.at_start (g.T.Text.bytes l.rest)
    × g.S.NodeSink.grown l.fn.sink nodes l.sink
    × (l.at_start ≡ true → l.at_comma ≡ follows_comma (g.T.Text.bytes l.whole) (g.T.Text.bytes l.rest))
    × (l.at_start ≡ false → l.at_comma ≡ false)

abbrev pub decreases-nodes : goal.decreases-nodes
decreases-nodes g l = length (g.T.Text.bytes l.rest)
