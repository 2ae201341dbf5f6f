use Rattle.std.proofs.Common.{arith}
use Rattle.uefi_path.proofs.ParentForm.{AreParents-prefixes, parents_once}
use Rattle.uefi_path.proofs.laws.parents_enumerate.Goals as goal

pub returns : goal.returns
returns c text parents valid = grind (arith, AreParents-prefixes text valid, parents_once)
