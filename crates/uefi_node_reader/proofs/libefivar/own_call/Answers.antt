use Rattle.std.proofs.Common.{ap, ◌∙◌, List, arith}
use Rattle.std.specs.List.{list_all}
use Rattle.uefi_device_nodes.specs.Rows.{Form}
use Rattle.uefi_node_reader.specs.TableReading.{is_filled, is_sound}
use Rattle.uefi_node_reader.proofs.Groups.{group_filled, group_sound}
use Rattle.uefi_node_reader.proofs.libefivar.own_call.Goals as goal

pub exact_group-requires-clause-sound : goal.exact_group-requires-clause-sound
exact_group-requires-clause-sound g c = ap (λ (l : List Form). list_all is_sound l) c.libefivar_forms.ensures ∙ group_sound 15 (omega arith)

pub exact_group-requires-clause-filled : goal.exact_group-requires-clause-filled
exact_group-requires-clause-filled g c = ap (λ (l : List Form). list_all is_filled l) c.libefivar_forms.ensures ∙ group_filled 15 (omega arith)
