use Rattle.std.proofs.Common.{◌≡◌, ℕ, List, ◌++◌, codes, length}
use Rattle.std.specs.Fmt.{WritesInCalls}
use Rattle.std.specs.List.{flat_map, join_by}
use Rattle.std.specs.Option.{ForSome}
use Rattle.uefi_device_path.specs.Instances.{instances, instances_in}
use Rattle.uefi_device_path.specs.PathTexts.{instance_text_by}
use Rattle.uefi_device_path.specs.Paths.{AreNodes, nodes_in}
use Rattle.uefi_device_path.proofs.text.path_text.put_path.Given as goal

abbrev pub decreases-instances : goal.decreases-instances
decreases-instances g l = length (instances_in l.rest)

-- what was put, and what is left to put after a comma each
abbrev pub invariant-instances : goal.invariant-instances
invariant-instances g l = record {
  left : ForSome l.rest (λ bytes. AreNodes bytes.now);
  so_far : List ℕ;
  rest : so_far ++ flat_map (λ instance. codes "," ++ instance_text_by (g.F.NodeForm.node_text l.form) instance) (instances_in l.rest)
      ≡ join_by (instance_text_by (g.F.NodeForm.node_text l.form)) (codes ",") (instances (nodes_in l.fn.bytes));
  put : WritesInCalls g.S.TextSink.puts l.fn.sink so_far l.sink;
}
