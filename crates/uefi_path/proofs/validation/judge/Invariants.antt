use Rattle.std.proofs.Common.{◌≡◌, ◌+◌, ◌<◌, ◌^◌, All, IsTrue, length}
use Rattle.uefi_path.specs.Components.{components_of}
use Rattle.uefi_path.specs.NormalForms.{IsName}
use Rattle.uefi_path.specs.Views.{components_left, path_text}
use Rattle.uefi_path.specs.Verdicts.{first_fault, verdict}
use Rattle.uefi_path.proofs.validation.judge.Given as goal

-- the components so far have no fault, so the verdict is that of the others, and they may be names
abbrev pub invariant-loop-component : goal.invariant-loop-component
invariant-loop-component l = record {
  fault : first_fault (components_left l.component-iterator) l.depth ≡ verdict (path_text l.fn.path);
  names :
      IsTrue l.are_names → All IsName (components_left l.component-iterator)
      → All IsName (components_of (path_text l.fn.path));
  bound : l.depth + length (components_left l.component-iterator) < 2 ^ 64;
}
