use Rattle.std.proofs.Common.{◌≡◌, drop, map}
use Rattle.uefi_device_nodes.specs.Words.{as_word}
use Rattle.uefi_node_reader.specs.WordReading.{word_read}
use Rattle.uefi_node_reader.proofs.exact.fields.word.Given as goal

abbrev pub invariant-loop-word : goal.invariant-loop-word
invariant-loop-word g l = word_read (map as_word (drop l.word-index l.words)) (g.T.Text.bytes l.text) ≡ word_read (map as_word l.words) (g.T.Text.bytes l.text)
