-- What a call reads of its input first, or why it is refused.
use Rattle.std.specs.Prelude.{ℕ, ◌==◌, if◌then◌else◌, List, slice_index, take, Option, Some, None, Result, Ok, Err}
use Rattle.std.specs.List.{find, position_or_len}
use Rattle.std.specs.Result.{result_map_both}
use Rattle.std.specs.Str.{chars, is_utf8}
use Rattle.std.specs.Str.Lossy.{utf8_valid_len}
use Rattle.uefi_text.specs.FromSliceUntilNul.{until_nul_refusal}
use Rattle.uefi_text.specs.FromStr.{is_deciding_char}
use Rattle.uefi_text.specs.Units.{deciding_place}
use Rattle.uefi_device_path.specs.CheckedNodes.{path_of_bytes}
use Rattle.uefi_device_path.specs.Nodes.{Node, first_node}
use Rattle.uefi_device_path.specs.NodeFaults.{node_fault}
use Rattle.nardcorbel.specs.Outcomes.{Outcome, when_read, refusal_at, unless}
use Rattle.nardcorbel.specs.Outcomes.Outcome.{Text}
use Rattle.nardcorbel.specs.Reasons.{character_reason}
use Rattle.nardcorbel.specs.Refusals.{node_refusal, path_refusal, string_refusal}
use Rattle.nardcorbel.specs.Strings.{text_until_nul}
use Rattle.nardcorbel.specs.declared.outcomes.Refusal.{Refusal}
use Rattle.nardcorbel.specs.declared.reasons.TheConstants.{INVALID_CHAR, NOT_UTF8}

-- a value, or the refusal for an error
abbrev pub value_or : {A E : Type 0} → Option E → (E → Refusal) → A → Result A Refusal
value_or None refusal value = Ok value
value_or (Some error) refusal value = Err (refusal error)

-- the text of the string that units begin with
unfoldable pub read_string : List ℕ → Result (List ℕ) Refusal
read_string units = value_or (until_nul_refusal units) (string_refusal units) (text_until_nul units)

-- the text that units are by the place of their first NUL or surrogate: a NUL ends it, a surrogate is wrong
abbrev pub units_read_at : List ℕ → Option ℕ → Result (List ℕ) Refusal
units_read_at units None = Ok units
units_read_at units (Some place) =
    if slice_index units place == 0 then Ok (take place units) else Err (refusal_at INVALID_CHAR place)

-- the text that units are up to their NUL, or all of them if there is none
unfoldable pub read_chars : List ℕ → Result (List ℕ) Refusal
read_chars units = units_read_at units (deciding_place units)

-- bytes that are UTF-8
unfoldable pub read_utf8 : List ℕ → Result (List ℕ) Refusal
read_utf8 bytes = if is_utf8 bytes then Ok bytes else Err (refusal_at NOT_UTF8 (utf8_valid_len bytes))

-- the nodes of the device path that bytes begin with
unfoldable pub read_path : List ℕ → Result (List Node) Refusal
read_path bytes = result_map_both (λ nodes. nodes) path_refusal (path_of_bytes bytes)

-- the node that bytes begin with
unfoldable pub read_node : List ℕ → Result Node Refusal
read_node bytes = value_or (node_fault bytes) node_refusal (first_node bytes)

-- a text in UTF-8 as a string: it is refused for its first character that no string holds
abbrev pub string_of_utf8 : List ℕ → Outcome
string_of_utf8 bytes = when_read (read_utf8 bytes) (λ text.
    unless (find is_deciding_char (chars text))
    (λ character. refusal_at (character_reason (Some character))
    (position_or_len is_deciding_char (chars text)))
    (Text (chars text)))
