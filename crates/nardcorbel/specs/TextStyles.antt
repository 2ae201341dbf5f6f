-- What the number of a style means: how a text is printed, and how it is read.
use Rattle.std.specs.Prelude.{ℕ, ◌==◌, true, false, if◌then◌else◌, List, Option, Some, None}
use Rattle.uefi_device_path.specs.Nodes.{Node}
use Rattle.uefi_device_path.specs.NodeTexts.{node_text}
use Rattle.uefi_device_path.specs.PathTexts.{libefivar_text, nodes_text}
use Rattle.uefi_device_path.specs.TextStyle.{TextStyle}
use Rattle.uefi_device_path.specs.TextStyle.TheVariants.{Lenient, Printed}
use Rattle.uefi_device_path.specs.TextStyle.TheVariants as read
use Rattle.nardcorbel.specs.Outcomes.{Outcome, refusal_for}
use Rattle.nardcorbel.specs.Outcomes.Outcome.{Refused, Text}
use Rattle.nardcorbel.specs.declared.reasons.TheConstants.{UNKNOWN_STYLE}
use Rattle.nardcorbel.specs.declared.device_paths.text_styles.Form.{Form}
use Rattle.nardcorbel.specs.declared.device_paths.text_styles.Form.TheVariants.{Libefivar, Specified}

-- the form in which a text of a style is printed
abbrev pub printed_form : ℕ → Option Form
printed_form style =
    if style == 0 then Some (Specified false false)
    else if style == 16 then Some (Specified true false)
    else if style == 32 then Some (Specified false true)
    else if style == 48 then Some (Specified true true)
    else if style == 2 then Some Libefivar
    else None

-- how a text of a style is read
abbrev pub style_of : ℕ → Option TextStyle
style_of style =
    if style == 0 then Some Printed
    else if style == 1 then Some Lenient
    else if style == 2 then Some read.Libefivar
    else None

-- what becomes of a call by the style that it is given
abbrev pub in_style : {A : Type 0} → Option A → (A → Outcome) → Outcome
in_style None next = Refused (refusal_for UNKNOWN_STYLE)
in_style (Some style) next = next style

-- the text of nodes in a form
abbrev pub text_in_form : Form → List Node → List ℕ
text_in_form (Specified display_only allow_shortcuts) nodes = nodes_text display_only allow_shortcuts nodes
text_in_form Libefivar nodes = libefivar_text nodes

-- what becomes of printing one node in a form: libefivar prints paths only
abbrev pub node_printed : (List ℕ → List ℕ) → Form → Node → Outcome
node_printed encode (Specified display_only allow_shortcuts) node =
    Text (encode (node_text display_only allow_shortcuts node))
node_printed encode Libefivar node = Refused (refusal_for UNKNOWN_STYLE)
