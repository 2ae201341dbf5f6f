use Rattle.std.proofs.Common.{◌≡◌, ◌↔◌, ◌++◌, ℕ, List, length}
use Rattle.uefi_path.specs.Views.{components_left}
use Rattle.uefi_path.proofs.splitting.components.Components.end_with.Given as goal

-- the components so far are the same, so what precedes the child is what precedes those to come
abbrev pub invariant-loop-name : goal.invariant-loop-name
invariant-loop-name l =
    (front : List (List ℕ))
    → (components_left l.fn.self ≡ front ++ components_left l.fn.child)
    ↔ (components_left l.rest ≡ front ++ components_left l.names)

abbrev pub decreases-loop-name : goal.decreases-loop-name
decreases-loop-name l = length (components_left l.names)
