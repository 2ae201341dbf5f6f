-- No part is well.
use Rattle.std.proofs.Common.{[], refl, rules}
use Rattle.uefi_device_path.specs.Views.{parts_of}
use Rattle.uefi_device_path.proofs.ListFaults.{no_nodes, no_paths}
use Rattle.uefi_device_path.proofs.Lists.{paths_in-nil}
use Rattle.uefi_device_path.proofs.Splits.{nodes_in-nil}
use Rattle.uefi_device_path.proofs.load_option_parts.LoadOptionParts.without_header.Goals as goal

pub invariant_of-result : goal.invariant_of-result
invariant_of-result c = record { ends = search rules; packed = no_paths; are_nodes = no_nodes }

pub returns : goal.returns
unfolding parts_of
returns c = rw (paths_in-nil [] refl, nodes_in-nil [] refl) refl
