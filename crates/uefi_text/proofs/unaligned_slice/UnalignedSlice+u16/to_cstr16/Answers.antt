-- What was written and not refused is a string.
use Rattle.std.proofs.Common.{◌≡◌, ◌≤◌, arith, length, take, rules}
use Rattle.std.proofs.lemmas.Grind.{common_steps}
use Rattle.uefi_text.specs.Views.{items_of}
use Rattle.uefi_text.proofs.unaligned_slice.UnalignedSlice+u16.to_cstr16.Goals as goal

pub from_string-requires : goal.from_string-requires
from_string-requires c =
    let items = items_of c.args.self.now in
    let room : length items ≤ length c.args.buffer.now = grind (arith, common_steps) in
    let front : take c.len.result c.write_cstr16.new.buffer ≡ items = grind (arith, common_steps) in
    rw front (search rules)
