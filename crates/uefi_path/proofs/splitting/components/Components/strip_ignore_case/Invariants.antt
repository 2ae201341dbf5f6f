use Rattle.std.proofs.Common.{◌≡◌, ◌<◌, ◌^◌, ◌↔◌, ◌++◌, ℕ, List, All, drop, length}
use Rattle.uefi_text.specs.Units.{IsText}
use Rattle.uefi_path.specs.Views.{components_left}
use Rattle.uefi_path.specs.WithoutCase.{capital_pieces}
use Rattle.uefi_path.proofs.splitting.components.Components.strip_ignore_case.Given as goal

-- the components so far are the same without case, so what follows the base is what follows those to come
abbrev pub invariant-loop-component : goal.invariant-loop-component
invariant-loop-component l = record {
  same :
      (more : List (List ℕ))
      → (capital_pieces (components_left l.fn.self) ≡ capital_pieces (components_left l.fn.base) ++ more)
      ↔ (capital_pieces (components_left l.rest) ≡ capital_pieces (components_left l.component-iterator) ++ more);
  left :
      drop (length (components_left l.fn.base)) (components_left l.fn.self)
      ≡ drop (length (components_left l.component-iterator)) (components_left l.rest);
  texts : All IsText (components_left l.rest);
  bound : length (components_left l.rest) < 2 ^ 64;
}
