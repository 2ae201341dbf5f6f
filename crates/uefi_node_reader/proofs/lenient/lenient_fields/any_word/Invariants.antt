use Rattle.std.proofs.Common.{◌≡◌, drop, map}
use Rattle.uefi_device_nodes.specs.Words.{as_word}
use Rattle.uefi_node_reader.specs.LenientFields.{any_word}
use Rattle.uefi_node_reader.proofs.lenient.lenient_fields.any_word.Given as goal

abbrev pub invariant-loop-word : goal.invariant-loop-word
invariant-loop-word g l =
    any_word (map as_word (drop l.word-index l.words)) (g.T.Text.bytes l.fn.text) ≡ any_word (map as_word l.words) (g.T.Text.bytes l.fn.text)
