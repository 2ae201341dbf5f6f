-- Calls that contain a text, as people write them. The text itself is as it is printed.
use Rattle.std.specs.Prelude.{ℕ, ◌-◌, Bool, true, false, not, ◌==◌, ◌&&◌, if◌then◌else◌, List, [], ◌∷◌, ◌++◌, codes, drop, length, min, Option, Some, None, Result, Err}
use Rattle.std.specs.Option.{ok_or}
use Rattle.std.specs.Result.{result_map_both}
use Rattle.uefi_device_nodes.specs.Rows.{Form}
use Rattle.uefi_device_nodes.specs.Table.{forms}
use Rattle.uefi_device_nodes.specs.declared.node_table.rows.Mode.{Mode}
use Rattle.uefi_device_nodes.specs.declared.node_table.rows.Mode.TheVariants.{Read, People}
use Rattle.uefi_device_nodes.specs.declared.node_table.rows.Tail.{Tail}
use Rattle.uefi_device_nodes.specs.declared.node_table.rows.Tail.TheVariants.{Ids, Padded}
use Rattle.uefi_device_nodes.specs.Nodes.{Node}
use Rattle.uefi_node_reader.specs.FieldReading.{clear_run}
use Rattle.uefi_node_reader.specs.LenientCalls.{begins_call_name, first_tried, is_textless, place_at, tidied, told_in}
use Rattle.uefi_node_reader.specs.LenientFields.{after_ending}
use Rattle.uefi_node_reader.specs.Mistakes.{past_mark}
use Rattle.uefi_node_reader.specs.Notations.{head_in, lenient, pieces_in}
use Rattle.uefi_node_reader.specs.Stops.{◌>?◌, stop_at}
use Rattle.uefi_node_reader.specs.TableReading.{as_ids, first_of, is_empty, tail_read}
use Rattle.uefi_node_reader.specs.declared.errors.faults.Expected.{Expected}
use Rattle.uefi_node_reader.specs.declared.errors.faults.Expected.TheVariants as expected
use Rattle.uefi_node_reader.specs.declared.errors.faults.Stop.{Stop}

-- whether a form is printed and contains a text
abbrev pub holds_text : Mode → Tail → Bool
holds_text Read tail = not (is_textless tail)
holds_text mode tail = false

-- whether people write only one of the IDs of a device in a form
abbrev pub holds_ids : Mode → Tail → Bool
holds_ids People Ids = true
holds_ids mode tail = false

-- the rest of a call, from this rest of the tidied call
abbrev pub left_of : List ℕ → List ℕ → List ℕ → List ℕ
left_of front call left = drop (place_at (length call - length left) front) front

-- the text in a call, from this rest of the tidied call; where a quotation mark ends the text, one begins
-- it, and the blanks after that one belong to the text
abbrev pub text_left : Form → List ℕ → List ℕ → List ℕ → List ℕ
text_left form front call left =
    if first_of form.close == 34 then past_mark 34 front else left_of front call left

-- the end of a tidied call, from this rest of the call
abbrev pub call_left : List ℕ → List ℕ → List ℕ
call_left call left = drop (length call - length (tidied left)) call

-- whether the IDs of a device are omitted
abbrev pub are_left_out : Tail → List ℕ → Bool
are_left_out Ids [] = true
are_left_out tail text = false

-- a text, or the commas between empty strings if the IDs of a device are omitted
abbrev pub or_commas : Tail → List ℕ → List ℕ
or_commas Ids [] = codes ",,"
or_commas tail text = text

-- the stop of a tidied call before this rest of the call
abbrev pub stop_before : List ℕ → Expected → Stop
stop_before left what = stop_at (tidied left) what

-- the rest of a text from the end of the second ID string on, given the text after the first
abbrev pub past_second : List ℕ → List ℕ
past_second [] = []
past_second (c ∷ cs) = if c == 44 then (clear_run 44 cs).1 else c ∷ cs

-- where a text stops that is not read, because an ID of a device is omitted or a name is too long
abbrev pub text_stop : Tail → List ℕ → Stop
text_stop Ids text = stop_before (past_second (clear_run 44 text).1) (expected.Byte 44)
text_stop Padded text = stop_before (drop (min 32 (length text)) text) (expected.Byte 41)
text_stop tail text = stop_before text expected.AsPrinted

-- the node of a form with this fixed part, from the text in its call on and the tidied call, or where the
-- call stops
abbrev pub text_told : Form → List ℕ → List ℕ → List ℕ → Result Node Stop
text_told form fixed text call = ok_or (tail_read form.tail form.close text) (text_stop form.tail text)
    >? λ tail. after_ending form.close (call_left call tail.1)
    >? pieces_in lenient form.rest fixed
    >? λ all. ok_or (told_in form (Some (all.0 ++ tail.0, all.1))) (stop_at all.1 expected.Untold)

-- the node of a form with this fixed part, if the call contains only the ID string of _UID, or where the call
-- stops
abbrev pub uid_told : Form → List ℕ → List ℕ → Result Node Stop
uid_told form fixed text = if is_empty (clear_run (first_of form.close) text).1
    then ok_or (told_in form (Some (fixed ++ as_ids [] [] (clear_run (first_of form.close) text).0, [])))
    (stop_before [] expected.Untold)
    else Err (stop_before (clear_run (first_of form.close) text).1 (expected.Byte (first_of form.close)))

-- the node of a form that contains a text, from the part of a call before its `)` and the tidied call, or
-- where the call stops
abbrev pub text_call_told : Form → List ℕ → List ℕ → Result Node Stop
text_call_told form front call = head_in lenient form call
    >? λ head. text_told form head.0 (or_commas form.tail (text_left form front call head.1)) call

-- the node of a form whose call contains only the ID string of _UID, or where the call stops
abbrev pub uid_call_told : Form → List ℕ → List ℕ → Result Node Stop
uid_call_told form front call =
    head_in lenient form call >? λ head. uid_told form head.0 (left_of front call head.1)

-- the node of a form, if it contains a text and has the name of the call, or where the call stops
abbrev pub text_tried : List ℕ → List ℕ → Form → Result Node (Option Stop)
text_tried front call form = if holds_text form.mode form.tail && begins_call_name form.start call
    then result_map_both (λ node. node) (λ stop. Some stop) (text_call_told form front call) else Err None

-- the node of a form whose call contains only the ID string of _UID, if it has the name of the call, or where
-- the call stops
abbrev pub uid_tried : List ℕ → List ℕ → Form → Result Node (Option Stop)
uid_tried front call form = if holds_ids form.mode form.tail && begins_call_name form.start call
    then result_map_both (λ node. node) (λ stop. Some stop) (uid_call_told form front call) else Err None

-- the node of a form that contains a text, or where the call stops
abbrev pub words_tried : List ℕ → List ℕ → Form → Result Node (Option Stop)
words_tried front call form = if holds_ids form.mode form.tail then uid_tried front call form
    else text_tried front call form

-- the node of a call in the first form of the table that contains a text, or where the call stops
abbrev pub texts_tried : List ℕ → List ℕ → Result Node (Option Stop)
texts_tried front call = first_tried (λ place. words_tried front call) 0 forms None
