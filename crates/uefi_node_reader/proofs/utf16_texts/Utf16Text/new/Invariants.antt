use Rattle.std.proofs.Common.{length}
use Rattle.uefi_node_reader.proofs.Utf16Texts.{CharsRead}
use Rattle.uefi_node_reader.proofs.utf16_texts.Utf16Text.new.Given as goal

abbrev pub invariant-chars : goal.invariant-chars
invariant-chars l = CharsRead l.all l.rest l.end

abbrev pub decreases-chars : goal.decreases-chars
decreases-chars l = length l.rest
