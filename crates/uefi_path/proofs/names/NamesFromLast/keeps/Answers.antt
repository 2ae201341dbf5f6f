-- What is left depends on what the piece is.
use Rattle.std.proofs.Common.{append_assoc, arith}
use Rattle.std.proofs.lemmas.List.{append-nil}
use Rattle.uefi_path.proofs.KeptNames.{name_passed}
use Rattle.uefi_path.proofs.Rewriting.{kind-Dot, kind-Name, normal_of-step}
use Rattle.uefi_path.proofs.names.NamesFromLast.keeps.Goals as goal

pub returns-in-Dot-clause-kept : goal.returns-in-Dot-clause-kept
returns-in-Dot-clause-kept c pieces = grind (arith, kind-Dot, append-nil, normal_of-step, append_assoc)

pub returns-else-self-eq0-clause-kept : goal.returns-else-self-eq0-clause-kept
returns-else-self-eq0-clause-kept c pieces = grind (arith, kind-Name, name_passed, append-nil)
