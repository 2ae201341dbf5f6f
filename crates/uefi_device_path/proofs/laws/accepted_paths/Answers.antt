use Rattle.std.proofs.Common.{◌∙◌, ap, ◌++◌, append_assoc}
use Rattle.uefi_device_nodes.specs.Nodes.{end_entire, node_bytes}
use Rattle.uefi_device_path.specs.Paths.{nodes_bytes}
use Rattle.uefi_device_path.proofs.Splits.{refused_no_path}
use Rattle.uefi_device_path.proofs.laws.accepted_paths.Goals as goal

pub returns-clause-with_more : goal.returns-clause-with_more
returns-clause-with_more c bytes more nodes path = (
  path.0 ++ more,
  record {
    inner = path.1.inner;
    join = ap (λ k. k ++ more) path.1.join ∙ append_assoc (nodes_bytes nodes) (node_bytes end_entire ++ path.0) more;
  },
)

pub returns-clause-never_both : goal.returns-clause-never_both
returns-clause-never_both c bytes nodes error path refused = refused_no_path bytes error refused nodes path
