use Rattle.std.proofs.Common.{map, ap, ◌∙◌}
use Rattle.uefi_node_steps.specs.Parts.{packed_form}
use Rattle.uefi_node_steps.proofs.table.group.Goals as goal

pub returns-clause-forms : goal.returns-clause-forms
returns-clause-forms c = ap (map packed_form) c.part.ensures ∙ c.part_of_group.ensures.forms
