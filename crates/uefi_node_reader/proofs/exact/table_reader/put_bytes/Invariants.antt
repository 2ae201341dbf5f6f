use Rattle.std.proofs.Common.{◌≡◌, drop}
use Rattle.uefi_node_reader.specs.TableReading.{put_all}
use Rattle.uefi_node_reader.proofs.exact.table_reader.put_bytes.Given as goal

abbrev pub invariant-loop-place : goal.invariant-loop-place
invariant-loop-place l = put_all (drop l.place-index l.bytes) l.content ≡ put_all l.bytes l.initial.content
