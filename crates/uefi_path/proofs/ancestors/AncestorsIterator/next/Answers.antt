-- What is left after the path are its beginnings without the last component.
use Rattle.std.proofs.Common.{ap, length, arith}
use Rattle.std.proofs.lemmas.Grind.{common_steps}
use Rattle.uefi_path.specs.Ancestors.{ancestors_left}
use Rattle.uefi_path.proofs.TakenComponents.{beginnings-cut}
use Rattle.uefi_path.proofs.ancestors.AncestorsIterator.next.Goals as goal

pub returns-clause-steps : goal.returns-clause-steps
unfolding ancestors_left
returns-clause-steps c = grind (arith, beginnings-cut)

pub returns-clause-goes : goal.returns-clause-goes
returns-clause-goes c = let fewer = ap length (returns-clause-steps c) in grind (arith, common_steps)
