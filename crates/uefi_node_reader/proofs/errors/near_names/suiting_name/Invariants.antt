use Rattle.std.proofs.Common.{◌≡◌, ◌+◌, drop, map}
use Rattle.uefi_node_reader.specs.NearNames.{suiting_name}
use Rattle.uefi_node_reader.proofs.errors.near_names.suiting_name.Given as goal

abbrev pub invariant-loop-place : goal.invariant-loop-place
invariant-loop-place g l = suiting_name l.exact (g.T.Text.bytes l.call) (map (λ name. name.now) (drop l.place l.names)) + l.place
    ≡ suiting_name l.exact (g.T.Text.bytes l.call) (map (λ name. name.now) l.names)
