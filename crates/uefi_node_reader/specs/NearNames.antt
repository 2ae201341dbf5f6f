-- Names of calls that differ from a name of the table in one letter.
use Rattle.std.specs.Prelude.{ℕ, zero, suc, ◌+◌, ◌==◌, true, ◌&&◌, ◌||◌, not, Bool, false, if◌then◌else◌, List, [], ◌∷◌, codes, is_some, slice_get, Option, Some, None}
use Rattle.std.specs.Char.{to_ascii_uppercase}
use Rattle.uefi_device_nodes.specs.Rows.{Form}
use Rattle.uefi_device_nodes.specs.Table.{forms}
use Rattle.uefi_node_reader.specs.LenientCalls.{begins_call_name}
use Rattle.uefi_node_reader.specs.TableReading.{form_place}
use Rattle.uefi_node_reader.specs.declared.errors.faults.Expected.{Expected}
use Rattle.uefi_node_reader.specs.declared.errors.faults.Expected.TheVariants as expected

-- whether a text begins with the name of a call, except that its first two letters are exchanged
abbrev pub are_exchanged : List ℕ → List ℕ → Bool
are_exchanged (c ∷ d ∷ cs) (t ∷ u ∷ ts) = (to_ascii_uppercase c == to_ascii_uppercase u)
    && ((to_ascii_uppercase d == to_ascii_uppercase t) && begins_call_name cs ts)
are_exchanged start text = false

-- whether a text begins with the name of a call, except that its first letter is replaced, omitted, preceded
-- by another letter, or exchanged with the second; the `(` is none of the letters
abbrev pub is_mistyped : List ℕ → List ℕ → Bool
is_mistyped [] text = false
is_mistyped (c ∷ cs) [] = false
is_mistyped (c ∷ cs) (t ∷ ts) = begins_call_name (c ∷ cs) ts || (not (c == 40)
    && (begins_call_name cs ts || (begins_call_name cs (t ∷ ts) || are_exchanged (c ∷ cs) (t ∷ ts))))

-- whether a text begins with the name of a call, except for one letter
abbrev pub is_near : List ℕ → List ℕ → Bool
is_near [] text = false
is_near (c ∷ cs) [] = false
is_near (c ∷ cs) (t ∷ ts) = if to_ascii_uppercase c == to_ascii_uppercase t then is_near cs ts
    else is_mistyped (c ∷ cs) (t ∷ ts)

-- the start of the text of the form at an index
abbrev pub start_at : List Form → ℕ → Option (List ℕ)
start_at [] place = None
start_at (form ∷ forms) zero = Some form.start
start_at (form ∷ forms) (suc place) = start_at forms place

-- the names of calls that no form of the table has
abbrev pub other_names : List (List ℕ)
other_names = codes "File(" ∷ codes "Path(" ∷ codes "HardwarePath(" ∷ codes "AcpiPath(" ∷ codes "Msg("
    ∷ codes "MediaPath(" ∷ codes "BbsPath(" ∷ []

-- whether a call begins with a name, or, unless `exact`, with a similar one
abbrev pub is_name_of : Bool → List ℕ → List ℕ → Bool
is_name_of exact call name = if exact then begins_call_name name call else is_near name call

-- the index of the first form that is_name_of, or the number of forms
abbrev pub suiting_form : Bool → List ℕ → ℕ
suiting_form exact call = form_place (λ form. is_name_of exact call form.start) forms

-- the index of the first of these names that is_name_of, or their number
abbrev pub suiting_name : Bool → List ℕ → List (List ℕ) → ℕ
suiting_name exact call [] = 0
suiting_name exact call (name ∷ names) =
    if is_name_of exact call name then 0 else suiting_name exact call names + 1

-- the name of a node, such as the one at an index of the other names, if there is one
abbrev pub other_like : ℕ → Option (List ℕ) → Expected
other_like place None = expected.Node
other_like place (Some name) = expected.OtherName place

-- the name of a node, such as the name of the form at an index of the table, if there is one, or else
-- this name
abbrev pub name_like : ℕ → Option (List ℕ) → Expected → Expected
name_like place None other = other
name_like place (Some start) other = expected.NodeLike place

-- what is expected of a tidied call that begins with no name: a similar name, if there is one
abbrev pub name_expected : List ℕ → Expected
name_expected call = name_like (suiting_form false call) (start_at forms (suiting_form false call))
    (other_like (suiting_name false call other_names)
    (slice_get other_names (suiting_name false call other_names)))

-- whether a tidied call begins with the name of a node
abbrev pub is_named : List ℕ → Bool
is_named call = is_some (start_at forms (suiting_form true call))
    || is_some (slice_get other_names (suiting_name true call other_names))
