use Rattle.std.proofs.Common.{◌≡◌, drop, map}
use Rattle.uefi_node_steps.specs.Leaves.{has_word}
use Rattle.uefi_node_steps.specs.Steps.{word_by}
use Rattle.uefi_node_steps.proofs.told.has_word.Given as goal

abbrev pub invariant-loop-word : goal.invariant-loop-word
invariant-loop-word l = has_word (map (word_by (λ t. t.now)) (drop l.word-index l.words)) l.number ≡ has_word (map (word_by (λ t. t.now)) l.words) l.number
