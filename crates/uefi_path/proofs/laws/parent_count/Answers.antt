use Rattle.std.proofs.Common.{ℕ, ◌-◌, ◌≤◌, List, [], ◌∷◌, length, arith}
use Rattle.uefi_path.proofs.ParentForm.{parent_text-plain, parent_text-with_separators, fewer_parent_text, AreParents-parents_of, parents_once}
use Rattle.uefi_path.specs.Components.{components_of}
use Rattle.uefi_path.specs.Separators.{IsPlain}
use Rattle.uefi_path.specs.SuccessiveParents.{AreParents, parents_of}
use Rattle.uefi_path.proofs.laws.parent_count.Goals as goal

fewer_parents : (text : List ℕ) (parents : List (List ℕ)) → IsPlain text → AreParents text parents
    → length parents ≤ length (components_of text) - 1
fewer_parents text [] plain none = omega arith
fewer_parents text (parent ∷ parents) plain of_parent =
    omega (
      arith,
      fewer_parents parent parents (parent_text-with_separators text parent of_parent.0) of_parent.1,
      fewer_parent_text text parent plain of_parent.0,
      (parent_text-plain text parent plain of_parent.0).1,
    )

pub returns-clause-ends : goal.returns-clause-ends
returns-clause-ends c text = (parents_of text, AreParents-parents_of text)

pub returns-clause-parents : goal.returns-clause-parents
returns-clause-parents c text = AreParents-parents_of text

pub returns-clause-same : goal.returns-clause-same
returns-clause-same c text parents = grind (arith, AreParents-parents_of text, parents_once)

pub returns-clause-fewer : goal.returns-clause-fewer
returns-clause-fewer c text parents plain are_parents = fewer_parents text parents plain are_parents
