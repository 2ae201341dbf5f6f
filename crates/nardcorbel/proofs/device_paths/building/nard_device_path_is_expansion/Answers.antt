-- Each begins with one path at most.
use Rattle.std.proofs.Common.{subst, List}
use Rattle.uefi_device_path.specs.Nodes.{Node}
use Rattle.uefi_device_path.specs.Matching.{IsExpansion}
use Rattle.uefi_device_path.specs.Views.{nodes_of}
use Rattle.nardcorbel.proofs.device_paths.building.nard_device_path_is_expansion.Goals as goal

pub returns : goal.returns
returns c =
    let path = nodes_of c.in-Ok.path in
    let short = nodes_of c.in-Ok-from_bytes.short in (
      λ yes. (path, short, c.in-Ok.ensures.ok, c.in-Ok-from_bytes.ensures.ok, c.is_expansion_of.ensures.0 yes),
      λ found.
          let one = subst (λ (k : List Node). IsExpansion k found.1) (c.in-Ok.ensures.only found.0 found.2) found.4 in
          c.is_expansion_of.ensures.1 (subst (λ (k : List Node). IsExpansion path k) (c.in-Ok-from_bytes.ensures.only found.1 found.3) one),
    )
