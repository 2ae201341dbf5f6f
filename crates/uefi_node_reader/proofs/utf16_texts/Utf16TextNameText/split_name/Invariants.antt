use Rattle.std.proofs.Common.{length}
use Rattle.uefi_node_reader.proofs.Utf16Texts.{PastName, bytes_of}
use Rattle.uefi_node_reader.proofs.utf16_texts.Utf16TextNameText.split_name.Given as goal

abbrev pub invariant-chars : goal.invariant-chars
invariant-chars l = PastName (bytes_of l.self) (bytes_of l.rest)

abbrev pub decreases-chars : goal.decreases-chars
decreases-chars l = length (bytes_of l.rest)

abbrev pub invariant-bytes : goal.invariant-bytes
invariant-bytes l = PastName (bytes_of l.self) (bytes_of l.rest)

abbrev pub decreases-bytes : goal.decreases-bytes
decreases-bytes l = length (bytes_of l.rest)
