-- The components but the one that is held back are added, each slash replaced.
use Rattle.std.proofs.Common.{ℕ, ◌∷◌, [], List}
use Rattle.std.specs.List.{fold}
use Rattle.uefi_text.specs.Views.{units_of}
use Rattle.uefi_path.specs.Parents.{all_but_last}
use Rattle.uefi_path.specs.Pushing.{appended}
use Rattle.uefi_path.specs.Views.{components_left}
use Rattle.uefi_path.proofs.Drafts.{IsDraft}
use Rattle.uefi_path.proofs.path_in_buf.sink_parent.Given as goal

abbrev pub invariant-loop-component : goal.invariant-loop-component
invariant-loop-component l =
    (text : List ℕ)
    × IsDraft text l.fn.buffer l.buffer l.len l.is_missing (units_of l.last ∷ components_left l.component-iterator)
    (fold appended [] (all_but_last (components_left l.fn.components)))
