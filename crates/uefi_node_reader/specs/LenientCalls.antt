-- Calls as people write them, without their blanks and in upper case.
use Rattle.std.specs.Prelude.{ℕ, ◌+◌, ◌-◌, Bool, true, false, not, ◌==◌, ◌&&◌, ◌||◌, if◌then◌else◌, List, [], ◌∷◌, ◌++◌, codes, filter, map, take, drop, position, Option, Some, None, Result, Ok, Err}
use Rattle.std.specs.Char.{is_ascii_whitespace, to_ascii_uppercase}
use Rattle.std.specs.Option.{ok_or, option_map}
use Rattle.std.specs.Result.{result_map_both}
use Rattle.uefi_device_nodes.specs.Rows.{Form}
use Rattle.uefi_device_nodes.specs.Table.{forms}
use Rattle.uefi_device_nodes.specs.declared.node_table.rows.Mode.{Mode}
use Rattle.uefi_device_nodes.specs.declared.node_table.rows.Mode.TheVariants.{Read, Printed, Display, Libefivar, People}
use Rattle.uefi_device_nodes.specs.declared.node_table.rows.Tail.{Tail}
use Rattle.uefi_device_nodes.specs.declared.node_table.rows.Tail.TheVariants.{Nothing, Bytes, Repeated}
use Rattle.uefi_device_nodes.specs.declared.node_table.layouts.TheConstants.{ACPI_TYPE, BIOS_BOOT_SPEC_TYPE, HARDWARE_TYPE, MEDIA_TYPE, MESSAGING_TYPE}
use Rattle.uefi_device_nodes.specs.Nodes.{Node, node_with}
use Rattle.uefi_node_reader.specs.Ambiguous.{ambiguous_stop}
use Rattle.uefi_node_reader.specs.FieldReading.{◌>>=◌}
use Rattle.uefi_node_reader.specs.LenientFields.{after_literal, any_number}
use Rattle.uefi_node_reader.specs.PlainNodes.{plain_rest}
use Rattle.uefi_node_reader.specs.Notations.{head_in, lenient}
use Rattle.uefi_node_reader.specs.Stops.{◌>?◌, exact_end, further, past, rest_end, stop_at, stop_of}
use Rattle.uefi_node_reader.specs.TableReading.{is_empty, rest_read}
use Rattle.uefi_node_reader.specs.CompleteTexts.{tells}
use Rattle.uefi_node_reader.specs.WordReading.{after}
use Rattle.uefi_node_reader.specs.declared.errors.faults.Expected.TheVariants as expected
use Rattle.uefi_node_reader.specs.declared.errors.faults.Stop.{Stop}

-- whether a byte of a call is skipped: a blank, a line end, or a brace around a GUID
abbrev pub is_blank : ℕ → Bool
is_blank byte = is_ascii_whitespace byte || ((byte == 123) || (byte == 125))

-- a byte in upper case, except for `x`, which the table has in `0x`
abbrev pub tidied_byte : ℕ → ℕ
tidied_byte byte = if to_ascii_uppercase byte == 88 then 120 else to_ascii_uppercase byte

-- the part of a call before its `)`, in upper case except for `x` and without blanks, and the `)`
abbrev pub tidied : List ℕ → List ℕ
tidied text = map tidied_byte (filter (λ c. not (is_blank c)) text) ++ codes ")"

-- what is left of a tidied call before this part of the call, which ends with the `)` if `is_open`
abbrev pub tidied_rest : Bool → List ℕ → List ℕ
tidied_rest is_open text =
    map tidied_byte (filter (λ c. not (is_blank c)) text) ++ (if is_open then codes ")" else [])

-- the index of the byte that `count` other bytes precede, not counting blanks
abbrev pub place_at : ℕ → List ℕ → ℕ
place_at count [] = 0
place_at count (c ∷ cs) = if is_blank c then place_at count cs + 1
    else (if count == 0 then 0 else place_at (count - 1) cs + 1)

-- a text from the first byte that is `mark` on
abbrev pub from_mark : ℕ → List ℕ → Option (List ℕ)
from_mark mark [] = None
from_mark mark (c ∷ cs) = if c == mark then Some (c ∷ cs) else from_mark mark cs

-- the parts of a text before and after its first `)`
abbrev pub cut_call : List ℕ → Option (List ℕ × List ℕ)
cut_call text = option_map (λ place. (take place text, drop (place + 1) text)) (position (λ c. c == 41) text)

-- whether the data after the fields contains no text
abbrev pub is_textless : Tail → Bool
is_textless Nothing = true
is_textless Bytes = true
is_textless (Repeated items) = true
is_textless tail = false

-- the node of a form with the data that was read, if nothing is left of the text, and the node's text
-- describes it completely
abbrev pub told_in : Form → Option (List ℕ × List ℕ) → Option Node
told_in form None = None
told_in form (Some read) = if is_empty read.1 && tells form (node_with form.kind form.sub_kind read.0)
    then Some (node_with form.kind form.sub_kind read.0) else None

-- the node of a form, from its tidied text, or where that stops
abbrev pub form_told : Form → List ℕ → Result Node Stop
form_told form text = head_in lenient form text
    >? λ read. ok_or (told_in form (rest_read form read)) (stop_of (rest_end form.tail form.close read.1))

-- whether a text begins with the name of a call, up to its `(`, in either case
abbrev pub begins_call_name : List ℕ → List ℕ → Bool
begins_call_name [] text = true
begins_call_name (c ∷ cs) [] = false
begins_call_name (c ∷ cs) (t ∷ ts) =
    (to_ascii_uppercase c == to_ascii_uppercase t) && ((c == 40) || begins_call_name cs ts)

-- the node of a form that is read, unless the form contains a text, or where the text stops
abbrev pub textless_told : Form → List ℕ → Result Node (Option Stop)
textless_told form text = if is_textless form.tail
    then result_map_both (λ node. node) (λ stop. Some stop) (form_told form text) else Err None

-- the node of a form whose name the text begins with, unless the form contains a text, or where the text
-- stops
abbrev pub named_told : Mode → Form → List ℕ → Result Node (Option Stop)
named_told Read form text = textless_told form text
named_told Printed form text = Err (Some (stop_at text expected.Untold))
named_told Display form text = Err None
named_told Libefivar form text = Err None
named_told People form text = textless_told form text

-- the node of any form, if the text begins with its name, or where the text stops
abbrev pub form_tried : Form → List ℕ → Result Node (Option Stop)
form_tried form text = if begins_call_name form.start text then named_told form.mode form text else Err None

-- what was read, or else the next reading, given where the first stopped
abbrev pub or_next : {A : Type 0} → Result A (Option Stop) → (Option Stop → Result A (Option Stop))
    → Result A (Option Stop)
or_next (Ok read) next = Ok read
or_next (Err stop) next = next stop

-- the first reading of a text that succeeds, in one of these ways, which have the indices from `place` on; or
-- else where the text stops in the way in which it was read furthest, at least `furthest`
abbrev pub first_tried : {W A : Type 0} → (ℕ → W → Result A (Option Stop)) → ℕ → List W → Option Stop
    → Result A (Option Stop)
first_tried tried place [] furthest = Err furthest
first_tried tried place (way ∷ ways) furthest =
    or_next (tried place way) (λ stop. first_tried tried (place + 1) ways (further furthest stop))

-- the node of a tidied text in the first form that can be read, or where the text stops
abbrev pub forms_tried : List Form → Option Stop → List ℕ → Result Node (Option Stop)
forms_tried forms furthest text = first_tried (λ place form. form_tried form text) 0 forms furthest

-- the node that was read, if nothing is left of the text
abbrev pub whole : Option (Node × List ℕ) → Option Node
whole None = None
whole (Some read) = if is_empty read.1 then Some read.0 else None

-- the names of calls for nodes of no known kind, with the type that a name stands for, if the call does not
-- contain the type
abbrev pub plain_names : List (List ℕ × Option ℕ)
plain_names = (codes "Path(", None) ∷ (codes "HardwarePath(", Some HARDWARE_TYPE) ∷
    (codes "AcpiPath(", Some ACPI_TYPE) ∷ (codes "Msg(", Some MESSAGING_TYPE) ∷
    (codes "MediaPath(", Some MEDIA_TYPE) ∷ (codes "BbsPath(", Some BIOS_BOOT_SPEC_TYPE) ∷ []

-- the node of no known kind of a type, from its sub-type on in a tidied text, and the rest of the text
abbrev pub sub_type_told : ℕ → List ℕ → Option (Node × List ℕ)
sub_type_told kind text = do
  sub_kind ← any_number 256 text
  plain_rest kind sub_kind.0 sub_kind.1

-- the node of no known kind, from its type on in a tidied text, or from its sub-type on if its type is known,
-- and the rest of the text
abbrev pub types_told : Option ℕ → List ℕ → Option (Node × List ℕ)
types_told None text = do
  kind ← any_number 256 text
  after (codes ",") kind.1 >>= sub_type_told kind.0
types_told (Some kind) text = sub_type_told kind text

-- the rest of a text after a node of no known kind, from its sub-type on, or where the text stops
abbrev pub sub_type_end : List ℕ → Result (List ℕ) Stop
sub_type_end text = ok_or (past (any_number 256 text)) (stop_at text (expected.Number 255))
    >? rest_end Bytes (codes ")")

-- the rest of a text after a node of no known kind, or where the text stops
abbrev pub types_end : Option ℕ → List ℕ → Result (List ℕ) Stop
types_end None text = ok_or (past (any_number 256 text)) (stop_at text (expected.Number 255))
    >? exact_end (codes ",") >? sub_type_end
types_end (Some kind) text = sub_type_end text

-- the node of no known kind that is a whole tidied text after its name, or where the text stops
abbrev pub plain_told : Option ℕ → Result (List ℕ) Stop → Result Node (Option Stop)
plain_told kind (Err stop) = Err None
plain_told kind (Ok rest) = ok_or (whole (types_told kind rest)) (Some (stop_of (types_end kind rest)))

-- the node of a tidied text that begins with one of these names, or else where the text stops, at least
-- `furthest`
abbrev pub names_tried : List (List ℕ × Option ℕ) → Option Stop → List ℕ → Result Node (Option Stop)
names_tried names furthest text =
    first_tried (λ place name. plain_told name.1 (after_literal name.0 text)) 0 names furthest

-- the node of a tidied text, in a form of the table or of no known kind, or where the text stops; a call that
-- becomes ambiguous stops there
abbrev pub call_tried : Option Stop → List ℕ → Result Node (Option Stop)
call_tried (Some stop) text = Err (Some stop)
call_tried None text = or_next (forms_tried forms None text) (λ stop. names_tried plain_names stop text)

-- the node of a tidied text, or where the text stops
abbrev pub call_told : List ℕ → Result Node (Option Stop)
call_told text = call_tried (ambiguous_stop text) text
