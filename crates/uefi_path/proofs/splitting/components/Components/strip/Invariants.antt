use Rattle.std.proofs.Common.{◌≡◌, ◌<◌, ◌^◌, ◌↔◌, ◌++◌, ℕ, List, All, length}
use Rattle.uefi_text.specs.Units.{IsText}
use Rattle.uefi_path.specs.Views.{components_left}
use Rattle.uefi_path.proofs.splitting.components.Components.strip.Given as goal

-- the components so far are the same, so what follows the base is what follows those to come
abbrev pub invariant-loop-component : goal.invariant-loop-component
invariant-loop-component l = record {
  same :
      (more : List (List ℕ))
      → (components_left l.fn.self ≡ components_left l.fn.base ++ more)
      ↔ (components_left l.rest ≡ components_left l.component-iterator ++ more);
  texts : All IsText (components_left l.rest);
  bound : length (components_left l.rest) < 2 ^ 64;
}
