use Rattle.std.proofs.Common.{All, IsTrue}
use Rattle.uefi_path.specs.Parents.{is_non_empty}
use Rattle.uefi_path.specs.Views.{components_left}
use Rattle.uefi_path.proofs.splitting.components.Components.has_empty.Given as goal

-- no component so far is empty, so that the others decide
abbrev pub invariant-loop-component : goal.invariant-loop-component
invariant-loop-component l =
    All (λ piece. IsTrue (is_non_empty piece)) (components_left l.component-iterator)
    → All (λ piece. IsTrue (is_non_empty piece)) (components_left l.fn.self)
