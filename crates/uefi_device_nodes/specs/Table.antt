-- The table of kinds, as contracts see it.
use Rattle.std.specs.Prelude.{ℕ, zero, suc, ◌+◌, ◌==◌, Bool, true, false, if◌then◌else◌, List, [], ◌++◌, map, Option, Some, None}
use Rattle.uefi_device_nodes.specs.Rows.{Form, const_form, find_form, form_text, matches}
use Rattle.uefi_device_nodes.specs.declared.node_table.table.TheConstants.{HARDWARE, ACPI, SAS, SAS_IN_BAYS, SAS_EX, MESSAGING, IPV4, IPV6, IPV6_SHORT, USB_CLASSES, MEDIA, BOOT, TYPED_ACPI, TYPED_MESSAGING, TYPED_MEDIA, LIBEFIVAR}

-- the forms of a group
unfoldable pub group_forms : ℕ → List Form
group_forms index = if index == 0 then map const_form HARDWARE.now else
    if index == 1 then map const_form ACPI.now else
    if index == 2 then map const_form SAS.now else
    if index == 3 then map const_form SAS_IN_BAYS.now else
    if index == 4 then map const_form SAS_EX.now else
    if index == 5 then map const_form MESSAGING.now else
    if index == 6 then map const_form IPV4.now else
    if index == 7 then map const_form IPV6.now else
    if index == 8 then map const_form IPV6_SHORT.now else
    if index == 9 then map const_form USB_CLASSES.now else
    if index == 10 then map const_form MEDIA.now else
    if index == 11 then map const_form BOOT.now else
    if index == 12 then map const_form TYPED_ACPI.now else
    if index == 13 then map const_form TYPED_MESSAGING.now else
    if index == 14 then map const_form TYPED_MEDIA.now else
    if index == 15 then map const_form LIBEFIVAR.now else []

-- the forms of `count` groups from a group on
abbrev pub forms_from : ℕ → ℕ → List Form
forms_from index zero = []
forms_from index (suc count) = group_forms index ++ forms_from (index + 1) count

-- all forms, except those of libefivar
abbrev pub forms : List Form
forms = forms_from 0 15

-- the forms that only libefivar writes, in the letters of a tidied call
abbrev pub libefivar_forms : List Form
libefivar_forms = group_forms 15

-- the form that a node of a type, a sub-type and data is printed in, if it has one
abbrev pub form_of : Bool → ℕ → ℕ → List ℕ → Option Form
form_of display_only kind sub_kind content = find_form (matches display_only kind sub_kind content) forms

-- whether a form was found
abbrev pub is_found : Option Form → Bool
is_found None = false
is_found (Some form) = true

-- the text of data in a form, or an empty text if there is none
abbrev pub text_in : Option Form → List ℕ → List ℕ
text_in None content = []
text_in (Some form) content = form_text form content

-- whether the table has a form for a node
unfoldable pub has_form : Bool → ℕ → ℕ → List ℕ → Bool
has_form display_only kind sub_kind content = is_found (form_of display_only kind sub_kind content)

-- the text of a node in its form of the table, or an empty text if it has none
unfoldable pub table_text : Bool → ℕ → ℕ → List ℕ → List ℕ
table_text display_only kind sub_kind content = text_in (form_of display_only kind sub_kind content) content
