-- Nodes as people write them. Each is completely described by its printed text.
use Rattle.std.specs.Prelude.{◌≡◌, ℕ, ◌+◌, ◌-◌, Bool, true, false, not, ◌==◌, ◌&&◌, ◌||◌, if◌then◌else◌, List, [], ◌∷◌, ◌++◌, codes, length, take, drop, Option, Some, None, Result, Ok, Err}
use Rattle.std.specs.List.{list_any, position_or_len}
use Rattle.std.specs.Option.{ok_or, option_map, option_or}
use Rattle.std.specs.Result.{result_map_both}
use Rattle.uefi_device_nodes.specs.Nodes.{Node}
use Rattle.uefi_node_reader.specs.FieldReading.{◌>>=◌, read_if}
use Rattle.uefi_node_reader.specs.LenientCalls.{call_told, cut_call, place_at, tidied, whole}
use Rattle.uefi_node_reader.specs.LenientFields.{after_literal}
use Rattle.uefi_node_reader.specs.Mistakes.{mistake}
use Rattle.uefi_node_reader.specs.NearNames.{is_named, name_expected}
use Rattle.uefi_node_reader.specs.NamedFiles.{before_spaces, begins_name, ends_name, is_after_node, name_bytes, name_read, node_read, past_spaces}
use Rattle.uefi_node_reader.specs.ShortAddresses.{short_ipv6}
use Rattle.uefi_node_reader.specs.Stops.{◌>?◌}
use Rattle.uefi_node_reader.specs.TableReading.{first_of}
use Rattle.uefi_node_reader.specs.TextCalls.{texts_tried}
use Rattle.uefi_node_reader.specs.declared.errors.faults.Expected.{Expected}
use Rattle.uefi_node_reader.specs.declared.errors.faults.Expected.TheVariants as expected
use Rattle.uefi_node_reader.specs.declared.errors.faults.NodeFault.{NodeFault}
use Rattle.uefi_node_reader.specs.declared.errors.faults.Stop.{Stop}

-- a fault at a byte of a text
abbrev pub fault_at_byte : ℕ → Expected → NodeFault
fault_at_byte byte what = record { byte = byte; expected = what }

-- the node of a call, or else of a call with short addresses, or where the call stops
abbrev pub or_short : Result Node (Option Stop) → Option Node → Result Node (Option Stop)
or_short (Ok node) short = Ok node
or_short (Err stop) None = Err stop
or_short (Err stop) (Some node) = Ok node

-- the node of a call that was read with a text; if it has no name of such a form, the node of a call without
-- a text; or where the call stops
abbrev pub or_textless : List ℕ → Result Node (Option Stop) → Result Node (Option Stop)
or_textless call (Ok node) = Ok node
or_textless call (Err (Some stop)) = Err (Some stop)
or_textless call (Err None) = or_short (call_told call) (short_ipv6 call)

-- the node of any call, from the part before its `)` and the tidied call, or where the call stops
abbrev pub call_read : List ℕ → List ℕ → Result Node (Option Stop)
call_read front call = or_textless call (texts_tried front call)

-- the fault of a text whose tidied call has no known name
abbrev pub unnamed_fault : List ℕ → List ℕ → NodeFault
unnamed_fault text call = fault_at_byte (place_at 0 text) (name_expected call)

-- whether a number after `0x` is expected
abbrev pub is_base : Expected → Bool
is_base expected.Base = true
is_base what = false

-- the fault of a text, from its tidied call and where that stops
abbrev pub stop_fault : List ℕ → List ℕ → Option Stop → NodeFault
stop_fault text call None = unnamed_fault text call
stop_fault text call (Some stop) =
    if is_base stop.expected && not (is_named call) then unnamed_fault text call
    else fault_at_byte (place_at (length call - (mistake call stop).left) text) (mistake call stop).expected

-- the fault of a call without a `)`: the missing `)`, unless an earlier byte is wrong
abbrev pub open_fault : List ℕ → List ℕ → Result Node (Option Stop) → NodeFault
open_fault text call (Ok node) = fault_at_byte (length text) (expected.Byte 41)
open_fault text call (Err None) = stop_fault text call None
open_fault text call (Err (Some stop)) = if stop.left == 0 then fault_at_byte (length text) (expected.Byte 41)
    else stop_fault text call (Some stop)

-- the node of the call at the start of a text, and the rest of the text, given the parts of the text before
-- and after the `)`
abbrev pub call_in : List ℕ → Option (List ℕ × List ℕ) → Result (Node × List ℕ) NodeFault
call_in text None = Err (open_fault text (tidied text) (call_read text (tidied text)))
call_in text (Some call) =
    result_map_both (λ node. (node, call.1)) (stop_fault text (tidied call.0))
    (call_read call.0 (tidied call.0))

-- a name with a backslash at its start
abbrev pub rooted : List ℕ → List ℕ
rooted [] = []
rooted (c ∷ cs) = if c == 92 then c ∷ cs else 92 ∷ c ∷ cs

-- whether a name begins with two backslashes: a program that escapes backslashes, as in JSON, wrote it
abbrev pub is_escaped_name : List ℕ → Bool
is_escaped_name [] = false
is_escaped_name (c ∷ []) = false
is_escaped_name (c ∷ d ∷ cs) = (c == 92) && (d == 92)

-- the node of a whole text that is a name, with or without the first backslash
abbrev pub typed_name : List ℕ → Option Node
typed_name name = if is_escaped_name name then None else whole (name_read (rooted name))

-- the node of the name in `File(..)`, and the rest of the text, given the parts of the name before and after
-- the `)`
abbrev pub file_in : List ℕ → List ℕ → Option (List ℕ × List ℕ) → Result (Node × List ℕ) NodeFault
file_in text name None = Err (fault_at_byte (length text) (expected.Byte 41))
file_in text name (Some call) =
    ok_or (option_map (λ node. (node, call.1)) (typed_name call.0))
    (fault_at_byte (length text - length name) expected.FileName)

-- whether a text begins with a `)` that may end a node; blanks may follow it
abbrev pub closes_node : List ℕ → Bool
closes_node [] = false
closes_node (c ∷ cs) = (c == 41) && is_after_node (past_spaces cs)

-- the index of the first `)` that may end a node
abbrev pub name_end : List ℕ → Option ℕ
name_end [] = None
name_end (c ∷ cs) = if closes_node (c ∷ cs) then Some 0 else option_map (λ place. place + 1) (name_end cs)

-- the number of parentheses that are open after a byte
abbrev pub opened : ℕ → ℕ → ℕ
opened depth c = if c == 40 then depth + 1 else if c == 41 then depth - 1 else depth

-- the index of the `)` that closes a call in which this many more parentheses are open; no slash or
-- comma comes before it
abbrev pub closing : ℕ → List ℕ → Option ℕ
closing depth [] = None
closing depth (c ∷ cs) = if (c == 41) && (depth == 0) then Some 0 else if ends_name c then None
    else option_map (λ place. place + 1) (closing (opened depth c) cs)

-- the index of the `)` that ends a name in `File(..)`: the first one that may end a node, or else the
-- one that closes the call
abbrev pub file_end : List ℕ → Option ℕ
file_end text = option_or (name_end text) (closing 0 text)

-- the parts of a text before and after the `)` that ends a name in `File(..)`; if there is no such `)`,
-- before and after the first
abbrev pub cut_file : List ℕ → Option (List ℕ × List ℕ)
cut_file text =
    option_or (option_map (λ place. (take place text, drop (place + 1) text)) (file_end text)) (cut_call text)

-- the text after its first byte, if no node may end there
abbrev pub past_end : List ℕ → Option (List ℕ)
past_end [] = None
past_end (c ∷ cs) = if is_after_node (past_spaces cs) then None else Some cs

-- the text after the `)` that closes a call, if no node may end there
abbrev pub past_closing : List ℕ → Option (List ℕ)
past_closing name = option_map (λ place. drop place name) (closing 0 name) >>= past_end

-- the same of the name in `File(..)`, if the text begins with such a call
abbrev pub past_file : Result (List ℕ) Stop → Option (List ℕ)
past_file (Err stop) = None
past_file (Ok name) = past_closing name

-- the text after the first `File(..)` of a text after which no node may end: other text follows the
-- path there
abbrev pub past_file_call : List ℕ → Option (List ℕ)
past_file_call [] = None
past_file_call (c ∷ cs) =
    option_or (past_file (after_literal (codes "File(") (c ∷ cs))) (past_file_call cs)

-- the node of a text, from the name in `File(..)`, or else from another call
abbrev pub file_or_call : Result (List ℕ) Stop → List ℕ → Result (Node × List ℕ) NodeFault
file_or_call (Err stop) text = call_in text (cut_call text)
file_or_call (Ok name) text = file_in text name (cut_file name)

-- the name at the start of a text, without the blanks and line ends around it
abbrev pub bare_name : List ℕ → List ℕ
bare_name text = before_spaces (past_spaces (name_bytes text))

-- the node of the name at the start of a text, with a backslash before it, and the rest of the text
abbrev pub named_read : List ℕ → Option (Node × List ℕ)
named_read text = option_map (λ node. (node, drop (position_or_len ends_name text) text))
    (typed_name (bare_name text))

-- whether a byte is a blank, a quotation mark, or a character that no short name on a FAT volume contains
abbrev pub is_stray : ℕ → Bool
is_stray c = (c == 32) || ((c == 34) || ((c == 39) || ((c == 96) || ((c == 42) || ((c == 43) || ((c == 58)
    || ((c == 59) || ((c == 60) || ((c == 61) || ((c == 62) || ((c == 63) || ((c == 91) || ((c == 93)
    || (c == 124))))))))))))))

-- whether the UTF-8 of a blank or a mark begins here: of U+0080 to U+00BF, U+2000 to U+207F or U+3000 to
-- U+303F
abbrev pub begins_mark : ℕ → List ℕ → Bool
begins_mark c cs = (c == 194) || (((c == 226) && ((first_of cs == 128) || (first_of cs == 129)))
    || ((c == 227) && (first_of cs == 128)))

-- whether a name contains a backslash, and none of these before it
abbrev pub has_plain_start : List ℕ → Bool
has_plain_start [] = false
has_plain_start (c ∷ cs) =
    (c == 92) || (not (is_stray c || begins_mark c cs) && has_plain_start cs)

-- whether a name may omit its first backslash: it contains another, with nothing before it that a short name
-- on a FAT volume excludes, and no `)`, `:` or quotation mark
abbrev pub omits_root : List ℕ → Bool
omits_root name = has_plain_start name && not (list_any (λ c. c == 41) name || (list_any (λ c. c == 58) name
    || (list_any (λ c. c == 34) name || list_any (λ c. c == 39) name)))

-- whether a name begins with a backslash, or may omit it
abbrev pub is_bare : List ℕ → Bool
is_bare name = begins_name name || omits_root name

-- the node of the name at the start of a text, with blanks and line ends around it, if it may omit its first
-- backslash; if `is_rooted`, after a comma, it has to have that backslash
abbrev pub bare_read : Bool → List ℕ → Option (Node × List ℕ)
bare_read is_rooted text = if (if is_rooted then begins_name (bare_name text) else is_bare (bare_name text))
    then named_read text else None

-- whether a text begins with a call: whether a `(` comes before the first slash or comma, and no backslash
-- begins the text
abbrev pub begins_call : List ℕ → Bool
begins_call text = list_any (λ c. c == 40) (name_bytes text) && not (begins_name (past_spaces text))

-- what was read, if a node may end there
abbrev pub ended : Option (Node × List ℕ) → Option (Node × List ℕ)
ended None = None
ended (Some read) = read_if (is_after_node read.1) read.0 read.1

-- what was read, without the blanks and line ends at the start of the rest
abbrev pub spaced : Node × List ℕ → Node × List ℕ
spaced read = (read.0, past_spaces read.1)

-- what was read, if a node may end there, perhaps with blanks after it
abbrev pub ended_spaced : Option (Node × List ℕ) → Option (Node × List ℕ)
ended_spaced None = None
ended_spaced (Some read) = read_if (is_after_node (past_spaces read.1)) read.0 (past_spaces read.1)

-- the fault of a text that continues past the end of its node
abbrev pub end_fault : List ℕ → List ℕ → NodeFault
end_fault text rest = fault_at_byte (length text - length rest) expected.End

-- what was read, if a node may end there, perhaps with blanks after it, or else the fault of the text
abbrev pub ended_at : List ℕ → Node × List ℕ → Result (Node × List ℕ) NodeFault
ended_at text read =
    if is_after_node (past_spaces read.1) then Ok (spaced read) else Err (end_fault text read.1)

-- the end of a text, after at least one byte
abbrev pub IsRestOf : List ℕ → List ℕ → Type 0
IsRestOf text rest = (first : ℕ) × (front : List ℕ) × (text ≡ first ∷ (front ++ rest))

-- the node at the start of a text as people write it, and the rest of the text: in `File(..)`, as another
-- call, or as a bare name, unless names have to be rooted there
abbrev pub written_read : Bool → List ℕ → Result (Node × List ℕ) NodeFault
written_read is_rooted text = if begins_call text
    then (file_or_call (after_literal (codes "File(") (past_spaces text)) text >? ended_at text)
    else ok_or (bare_read is_rooted text)
    (fault_at_byte 0 (if is_after_node text then expected.Node else expected.FileName))

-- what was read, or else this fault
abbrev pub or_fault : NodeFault → Result (Node × List ℕ) NodeFault → Result (Node × List ℕ) NodeFault
or_fault fault (Ok read) = Ok read
or_fault fault (Err other) = Err fault

-- the node that was read exactly, if a node may end there, or else the other reading; if both fail, the fault
-- is where the exact one ended
abbrev pub exact_or : List ℕ → Option (Node × List ℕ) → Result (Node × List ℕ) NodeFault
    → Result (Node × List ℕ) NodeFault
exact_or text None other = other
exact_or text (Some read) other = if is_after_node (past_spaces read.1) then Ok (spaced read)
    else or_fault (end_fault text read.1) other

-- the node at the start of a text as it is printed, or else as people write it, and the rest of the text, or
-- the fault of the text
unfoldable pub lenient_read : Bool → List ℕ → Result (Node × List ℕ) NodeFault
lenient_read is_rooted text = if is_escaped_name text then Err (fault_at_byte 1 expected.FileName)
    else exact_or text (node_read text) (written_read is_rooted text)
