-- The text is read into a path of its own, and once more only if that has no room.
use Rattle.std.proofs.Common.{refl}
use Rattle.uefi_device_path.specs.NodeSinks.{nodes_up_to}
use Rattle.uefi_device_path.proofs.Building.{len_of_path}
use Rattle.uefi_device_path.proofs.HeldPaths.{begins_empty, counted_apart, needed_by, without_room}
use Rattle.uefi_device_path.proofs.text.text_in_buf.push_any_text_in_buf.Goals as goal

pub returns-in-Err : goal.returns-in-Err
returns-in-Err g c = rw c.in-Err.ensures.read (refl, refl)

pub put_text_in_buf-requires : goal.put_text_in_buf-requires
put_text_in_buf-requires g c = λ within. (begins_empty c.copy_from_slice.new.self _ c.copy_from_slice.ensures.after).0

pub returns-in-Err-put_text_in_buf : goal.returns-in-Err-put_text_in_buf
returns-in-Err-put_text_in_buf g c = rw (c.in-Ok.ensures.read, c.in-Err-put_text_in_buf.ensures) (refl, refl)

pub returns-then-buffer-needed : goal.returns-then-buffer-needed
returns-then-buffer-needed g c =
    let (read, is, more) = c.in-Ok-put_text_in_buf.ensures in
    let nodes = nodes_up_to c.in-Ok.len c.args.buffer.now in
    let size = len_of_path c.args.buffer.now nodes c.in-Ok.len c.in-Ok.ensures.is_path refl c.in-Ok.ensures.within in
    let needed = c.saturating_add-needed.result in
    let count = counted_apart nodes read c.in-Ok.len c.in-Ok-put_text_in_buf.end needed size more.count c.saturating_add-needed.ensures in
    rw (c.in-Ok.ensures.read, is)
    (without_room nodes read c.args.buffer.now needed (needed_by nodes read c.in-Ok.len needed size count) c.if-buffer-needed.true)
