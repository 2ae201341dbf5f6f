use Rattle.std.proofs.Common.{◌≡◌, drop}
use Rattle.uefi_node_reader.proofs.Utf16Texts.{bytes_of}
use Rattle.uefi_node_reader.proofs.utf16_texts.Utf16TextText.split_at.Given as goal

abbrev pub invariant-bytes : goal.invariant-bytes
invariant-bytes l = bytes_of l.back ≡ drop l.counter (bytes_of l.self)
