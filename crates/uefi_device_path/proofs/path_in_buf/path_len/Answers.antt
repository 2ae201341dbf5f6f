-- A buffer begins with one path at most.
use Rattle.std.proofs.Common.{◌∙◌, ap, sym, length, List, Ok}
use Rattle.uefi_device_nodes.specs.Nodes.{Node}
use Rattle.uefi_device_path.specs.Views.{nodes_of}
use Rattle.uefi_device_path.proofs.Building.{path_in_front}
use Rattle.uefi_device_path.proofs.CheckedRuns.{path_is_read, refusal_is_read}
use Rattle.uefi_device_path.proofs.path_in_buf.path_len.Goals as goal

pub returns-in-Ok-clause-is_path : goal.returns-in-Ok-clause-is_path
returns-in-Ok-clause-is_path c =
    (path_in_front c.args.buffer.now (nodes_of c.in-Ok.path) _ c.in-Ok.ensures.ok (ap length c.as_bytes.ensures.bytes)).0

pub returns-in-Ok-clause-read : goal.returns-in-Ok-clause-read
returns-in-Ok-clause-read c =
    let shown = (path_in_front c.args.buffer.now (nodes_of c.in-Ok.path) _ c.in-Ok.ensures.ok (ap length c.as_bytes.ensures.bytes)).1 in
    path_is_read c.args.buffer.now (nodes_of c.in-Ok.path) c.in-Ok.ensures.ok ∙ ap (λ (ns : List Node). Ok ns) (sym shown)

pub returns-in-Err-clause-read : goal.returns-in-Err-clause-read
returns-in-Err-clause-read c = refusal_is_read c.args.buffer.now c.in-Err.error c.in-Err.ensures.refusal
