use Rattle.uefi_path.proofs.KeptNames.{normal_holds_names, normal_is_normal, normal_is_valid, normal_paths_agree}
use Rattle.uefi_path.proofs.NormalLengths.{normal_is_no_longer}
use Rattle.uefi_path.proofs.laws.normal_once.Goals as goal

pub returns-clause-valid : goal.returns-clause-valid
returns-clause-valid c = normal_is_valid

pub returns-clause-again : goal.returns-clause-again
returns-clause-again c = normal_is_normal

pub returns-clause-agree : goal.returns-clause-agree
returns-clause-agree c = normal_paths_agree

pub returns-clause-names : goal.returns-clause-names
returns-clause-names c = normal_holds_names

pub returns-clause-no_longer : goal.returns-clause-no_longer
returns-clause-no_longer c = normal_is_no_longer
