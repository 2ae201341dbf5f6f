use Rattle.std.proofs.lemmas.Str.{IsUtf8-from_is_utf8}
use Rattle.uefi_node_reader.proofs.named_files.RefSliceU8NameText.push_utf16.Goals as goal

pub from_utf8_unchecked-requires : goal.from_utf8_unchecked-requires
from_utf8_unchecked-requires c = IsUtf8-from_is_utf8 c.args.self.now c.requires
