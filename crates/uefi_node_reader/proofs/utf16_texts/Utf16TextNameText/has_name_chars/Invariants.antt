use Rattle.std.proofs.Common.{◌≡◌, length}
use Rattle.uefi_node_reader.proofs.Utf16Texts.{bytes_of, is_named}
use Rattle.uefi_node_reader.proofs.utf16_texts.Utf16TextNameText.has_name_chars.Given as goal

abbrev pub invariant-chars : goal.invariant-chars
invariant-chars l = is_named (bytes_of l.rest) ≡ is_named (bytes_of l.self)

abbrev pub decreases-chars : goal.decreases-chars
decreases-chars l = length (bytes_of l.rest)
