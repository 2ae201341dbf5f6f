use Rattle.uefi_path.proofs.Rewriting.{normal_form_where_same, normal_forms_agree, normal_forms_exist, normal_forms_once}
use Rattle.uefi_path.proofs.laws.normal_unique.Goals as goal

pub returns-clause-exists : goal.returns-clause-exists
returns-clause-exists c = normal_forms_exist

pub returns-clause-once : goal.returns-clause-once
returns-clause-once c = normal_forms_once

pub returns-clause-agree : goal.returns-clause-agree
returns-clause-agree c = normal_forms_agree

pub returns-clause-same : goal.returns-clause-same
returns-clause-same c = normal_form_where_same
