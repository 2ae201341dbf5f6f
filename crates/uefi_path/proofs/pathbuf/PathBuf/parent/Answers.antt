-- The parent of the components is that of the text.
use Rattle.std.proofs.Common.{IfOk, arith, subst, ◌≡◌}
use Rattle.uefi_path.specs.Parents.{parent_text}
use Rattle.uefi_path.specs.Separators.{IsPlain}
use Rattle.uefi_path.proofs.ParentForm.{counted_parents, shorter_parent, successive_parents}
use Rattle.uefi_path.proofs.pathbuf.PathBuf.parent.Goals as goal

is_parent : (g : _) (c : goal.After-parent_of g) → IfOk c.parent_of.result (λ parent. parent ≡ parent_text c.args.self.now)
is_parent g c = grind arith

pub returns-clause-shorter : goal.returns-clause-shorter
returns-clause-shorter g c = shorter_parent _ c.args.self.now (is_parent g c)

pub returns-clause-successive : goal.returns-clause-successive
returns-clause-successive g c = successive_parents _ c.args.self.now (is_parent g c)

pub returns-clause-count : goal.returns-clause-count
returns-clause-count g c =
    counted_parents _ c.args.self.now (is_parent g c) (subst IsPlain c.self.view_is c.self.invariant.0)
