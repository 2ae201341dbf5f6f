use Rattle.std.proofs.Common.{◌≡◌, ◌-◌, [], ◌∷◌, length, take}
use Rattle.uefi_node_steps.specs.Leaves.{behind_each, pairs}
use Rattle.uefi_node_steps.specs.Views.{after_these}
use Rattle.uefi_node_steps.proofs.fields.fill_behind.Given as goal

abbrev pub invariant-loop-place : goal.invariant-loop-place
invariant-loop-place g l = after_these (take l.place l.found) ((behind_each (l.letter ∷ []) 1 (pairs 1) (length l.initial.found - l.place)).read (g.T.Text.codes l.rest))
    ≡ (behind_each (l.letter ∷ []) 1 (pairs 1) (length l.initial.found)).read (g.T.Text.codes l.fn.text)
