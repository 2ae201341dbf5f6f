use Rattle.std.proofs.Common.{◌≡◌, drop, map}
use Rattle.uefi_device_nodes.specs.Words.{as_word, word_text}
use Rattle.uefi_device_nodes.proofs.node_table.word_lists.word_for.Given as goal

abbrev pub invariant-loop-word : goal.invariant-loop-word
invariant-loop-word l = word_text (map as_word (drop l.word-index l.words)) l.number ≡ word_text (map as_word l.words) l.number
