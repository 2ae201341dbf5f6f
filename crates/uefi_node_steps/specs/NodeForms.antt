-- The forms of nodes, in their groups.
use Rattle.std.specs.Prelude.{◌≡◌, ℕ, zero, suc, ◌+◌, ◌==◌, true, if◌then◌else◌, List, [], ◌++◌, map}
use Rattle.std.specs.List.{list_all}
use Rattle.uefi_node_steps.specs.Heads.{can_tell, is_laid}
use Rattle.uefi_node_steps.specs.Nodes.{ReadsNodes}
use Rattle.uefi_node_steps.specs.Table.{Form, as_form}
use Rattle.uefi_node_steps.specs.declared.table.TheConstants.{HARDWARE, ACPI, SAS, SAS_IN_BAYS, SAS_EX, MESSAGING, IPV4, IPV6, IPV6_SHORT, USB_CLASSES, MEDIA, BOOT, TYPED_ACPI, TYPED_MESSAGING, TYPED_IPV6, TYPED_MEDIA, LIBEFIVAR}

-- the forms of a group
unfoldable pub group_forms : ℕ → List Form
group_forms index = if index == 0 then map as_form HARDWARE.now else
    if index == 1 then map as_form ACPI.now else
    if index == 2 then map as_form SAS.now else
    if index == 3 then map as_form SAS_IN_BAYS.now else
    if index == 4 then map as_form SAS_EX.now else
    if index == 5 then map as_form MESSAGING.now else
    if index == 6 then map as_form IPV4.now else
    if index == 7 then map as_form IPV6.now else
    if index == 8 then map as_form IPV6_SHORT.now else
    if index == 9 then map as_form USB_CLASSES.now else
    if index == 10 then map as_form MEDIA.now else
    if index == 11 then map as_form BOOT.now else
    if index == 12 then map as_form TYPED_ACPI.now else
    if index == 13 then map as_form TYPED_MESSAGING.now else
    if index == 14 then map as_form TYPED_IPV6.now else
    if index == 15 then map as_form TYPED_MEDIA.now else
    if index == 16 then map as_form LIBEFIVAR.now else []

-- the forms of `count` groups from a group on
abbrev pub forms_from : ℕ → ℕ → List Form
forms_from index zero = []
forms_from index (suc count) = group_forms index ++ forms_from (index + 1) count

-- all forms of the table
abbrev pub node_forms : List Form
node_forms = forms_from 0 17

-- they are read as a table that is read
abbrev pub NodesRead : Type 0
NodesRead = ReadsNodes node_forms

-- code finds out which of their nodes are told, and prints them
abbrev pub NodesTell : Type 0
NodesTell = (can_tell node_forms ≡ true) × (list_all is_laid node_forms ≡ true)
