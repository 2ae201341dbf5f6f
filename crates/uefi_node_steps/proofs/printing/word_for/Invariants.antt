use Rattle.std.proofs.Common.{◌≡◌, drop, map}
use Rattle.uefi_node_steps.specs.Leaves.{word_text}
use Rattle.uefi_node_steps.specs.Steps.{word_by}
use Rattle.uefi_node_steps.proofs.printing.word_for.Given as goal

abbrev pub invariant-loop-word : goal.invariant-loop-word
invariant-loop-word l = word_text (map (word_by (λ t. t.now)) (drop l.word-index l.words)) l.number ≡ word_text (map (word_by (λ t. t.now)) l.words) l.number
