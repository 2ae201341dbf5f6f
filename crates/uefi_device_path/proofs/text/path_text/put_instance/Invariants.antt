use Rattle.std.proofs.Common.{◌≡◌, ℕ, List, ◌++◌, codes, length}
use Rattle.std.specs.Fmt.{WritesInCalls}
use Rattle.std.specs.List.{flat_map, join_by}
use Rattle.uefi_device_path.specs.Paths.{AreNodes, nodes_in}
use Rattle.uefi_device_path.proofs.text.path_text.put_instance.Given as goal

abbrev pub decreases-nodes : goal.decreases-nodes
decreases-nodes g l = length l.rest

-- what was put, and what is left to put after a slash each
abbrev pub invariant-nodes : goal.invariant-nodes
invariant-nodes g l = record {
  left : AreNodes l.rest;
  so_far : List ℕ;
  rest : so_far ++ flat_map (λ node. codes "/" ++ g.F.NodeForm.node_text l.form node) (nodes_in l.rest)
      ≡ join_by (g.F.NodeForm.node_text l.form) (codes "/") (nodes_in l.fn.bytes);
  put : WritesInCalls g.S.TextSink.puts l.fn.sink so_far l.sink;
}
