use Rattle.std.proofs.Common.{◌≡◌, drop, map}
use Rattle.uefi_node_steps.specs.Leaves.{word_read}
use Rattle.uefi_node_steps.specs.Steps.{word_by}
use Rattle.uefi_node_steps.proofs.fields.word.Given as goal

abbrev pub invariant-loop-word : goal.invariant-loop-word
invariant-loop-word g l = word_read (map (word_by (λ t. t.now)) (drop l.word-index l.words)) (g.T.Text.codes l.text)
    ≡ word_read (map (word_by (λ t. t.now)) l.words) (g.T.Text.codes l.text)
