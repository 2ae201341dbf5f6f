use Rattle.std.proofs.Common.{◌≡◌, drop, map}
use Rattle.uefi_device_nodes.specs.Words.{as_word}
use Rattle.uefi_node_reader.specs.WordReading.{word_number}
use Rattle.uefi_node_reader.proofs.lenient.complete_texts.word_number.Given as goal

abbrev pub invariant-loop-word : goal.invariant-loop-word
invariant-loop-word l =
    word_number (map as_word (drop l.word-index l.words)) l.number ≡ word_number (map as_word l.words) l.number
