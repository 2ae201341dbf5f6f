-- The parent of the components is that of the text, or what stands before the last separator.
use Rattle.std.proofs.Common.{IfOk, ap, arith, subst, sym, ◌∙◌, ◌≡◌}
use Rattle.uefi_path.specs.Parents.{parent_of_components}
use Rattle.uefi_path.specs.SuccessiveParents.{parent_chain}
use Rattle.uefi_path.specs.Views.{path_text}
use Rattle.uefi_path.proofs.ParentForm.{cut_parent, parents_of-chain, shorter_parent, successive_parents}
use Rattle.uefi_path.proofs.Joining.{IsFull}
use Rattle.uefi_path.proofs.path.Path.parent.Goals as goal

pub returns-then-has_empty-clause-shorter : goal.returns-then-has_empty-clause-shorter
returns-then-has_empty-clause-shorter g c =
    shorter_parent _ (path_text c.args.self.now)
    (subst (λ all. IfOk c.parent_of.result (λ parent. parent ≡ parent_of_components all)) c.components.ensures.same c.parent_of.ensures.ok)

pub returns-then-has_empty-clause-successive : goal.returns-then-has_empty-clause-successive
returns-then-has_empty-clause-successive g c = grind (arith, successive_parents)

pub returns-clause-ok : goal.returns-clause-ok
returns-clause-ok g c = grind (arith, IsFull, cut_parent)

pub returns-clause-successive : goal.returns-clause-successive
returns-clause-successive g c = parents_of-chain (path_text c.args.self.now) ∙ ap parent_chain (sym (returns-clause-ok g c))
