use Rattle.std.proofs.Common.{List, length}
use Rattle.uefi_text.specs.Units.{IsText}
use Rattle.uefi_device_nodes.specs.Nodes.{Node}
use Rattle.uefi_device_path.specs.FilePaths.{file_path}
use Rattle.uefi_device_path.specs.Paths.{AreNodes}
use Rattle.uefi_device_path.proofs.Names.{Named}
use Rattle.uefi_device_path.proofs.file_path.check_names.Given as goal

-- the nodes so far have names
abbrev pub invariant-loop-rest : goal.invariant-loop-rest
invariant-loop-rest l = record {
  left : AreNodes l.rest;
  nodes : List Node;
  named : Named l.bytes nodes l.rest (file_path nodes);
  text : IsText (file_path nodes);
}

abbrev pub decreases-loop-rest : goal.decreases-loop-rest
decreases-loop-rest l = length l.rest
