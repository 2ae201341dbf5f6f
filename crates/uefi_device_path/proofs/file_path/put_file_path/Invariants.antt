use Rattle.std.proofs.Common.{List, length}
use Rattle.std.specs.Fmt.{WritesInCalls}
use Rattle.std.specs.Str.{encode_utf8_all}
use Rattle.uefi_device_nodes.specs.Nodes.{Node}
use Rattle.uefi_device_path.specs.FilePathBuffers.{EndsAs}
use Rattle.uefi_device_path.specs.FilePaths.{file_path}
use Rattle.uefi_device_path.specs.Paths.{AreNodes}
use Rattle.uefi_device_path.proofs.Names.{Named}
use Rattle.uefi_device_path.proofs.file_path.put_file_path.Given as goal

-- the names so far were put
abbrev pub invariant-loop-rest : goal.invariant-loop-rest
invariant-loop-rest g l = record {
  left : AreNodes l.rest;
  nodes : List Node;
  named : Named l.fn.bytes nodes l.rest (file_path nodes);
  ends : EndsAs (file_path nodes) l.end;
  put : WritesInCalls g.S.TextSink.puts l.fn.sink (encode_utf8_all (file_path nodes)) l.sink;
}

abbrev pub decreases-loop-rest : goal.decreases-loop-rest
decreases-loop-rest g l = length l.rest
