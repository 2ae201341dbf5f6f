-- A buffer whose room is chosen by the bytes has room for their text.
use Rattle.std.proofs.Common.{◌≡◌, ◌≢◌, ◌∙◌, ℕ, ◌<◌, ◌≤◌, List, ◌++◌, length, length-append, append_assoc, take, Option, Some, None, Result, Ok, Err, ap, refl, sym, arith}
use Rattle.std.proofs.lemmas.List.{take_at}
use Rattle.std.proofs.lemmas.List.Elements.{All-same, All-take}
use Rattle.std.specs.Prelude.{All}
use Rattle.std.specs.Result.{result_map_both}
use Rattle.uefi_text.specs.Packed.{IsByte}
use Rattle.uefi_text.specs.UnitTexts.{utf16_units}
use Rattle.uefi_device_path.proofs.CheckedRuns.{begins_node, reads_path}
use Rattle.uefi_device_path.specs.CheckedNodes.{path_of_bytes}
use Rattle.uefi_device_path.specs.NodeError.{NodeError}
use Rattle.uefi_device_path.specs.NodeError.TheVariants.{BeyondEnd, EndWithData, LengthBelowHeader, Missing, TruncatedHeader, UnknownEnd}
use Rattle.uefi_device_path.specs.NodeFaults.{node_fault}
use Rattle.uefi_device_path.specs.Nodes.{Node, end_entire, first_node, node_bytes}
use Rattle.uefi_device_path.specs.Paths.{nodes_bytes, path_bytes}
use Rattle.uefi_device_path.specs.PathTexts.{text_room}
use Rattle.uefi_device_path.specs.declared.errors.DevicePathError.{DevicePathError}
use Rattle.nardcorbel.proofs.Judged.{has_room}
use Rattle.nardcorbel.specs.Outcomes.{reason_shown, room_reason, when_read}
use Rattle.nardcorbel.specs.Outcomes.Outcome.{Text}
use Rattle.nardcorbel.specs.Reading.{read_node, read_path, value_or}
use Rattle.nardcorbel.specs.Reasons.{node_reason}
use Rattle.nardcorbel.specs.Refusals.{node_refusal, path_refusal}
use Rattle.nardcorbel.specs.declared.reasons.TheConstants.{BUFFER_TOO_SMALL}

-- no bytes are refused for want of room
never_room : (error : NodeError) → node_reason error ≢ BUFFER_TOO_SMALL
never_room Missing e = omega (arith, e)
never_room TruncatedHeader e = omega (arith, e)
never_room UnknownEnd e = omega (arith, e)
never_room LengthBelowHeader e = omega (arith, e)
never_room EndWithData e = omega (arith, e)
never_room BeyondEnd e = omega (arith, e)

-- a text that has fewer units than the room for the first of some bytes
first_fits : (text bytes front rest buffer : List ℕ) → bytes ≡ front ++ rest → All IsByte bytes → text_room bytes ≤ length buffer
    → (All IsByte front → length text < text_room front) → room_reason text buffer ≢ BUFFER_TOO_SMALL
first_fits text bytes front rest buffer is all room fit =
    let same : front ≡ take (length front) bytes = sym (ap (take (length front)) is ∙ take_at front rest (length front) refl) in
    let each = All-same IsByte front (take (length front) bytes) same (All-take IsByte (length front) bytes all) in
    let fits : length text < length buffer = omega (arith, fit each, room, ap length is, length-append front rest) in
    λ e. omega (arith, has_room text buffer fits, e)

-- the text of a path
pub path_has_room : (text : List Node → List ℕ)
    → ((nodes : List Node) → All IsByte (path_bytes nodes) → length (utf16_units (text nodes)) < text_room (path_bytes nodes))
    → (bytes buffer : List ℕ) → All IsByte bytes → text_room bytes ≤ length buffer
    → reason_shown (when_read (read_path bytes) (λ nodes. Text (utf16_units (text nodes)))) buffer ≢ BUFFER_TOO_SMALL
unfolding read_path
path_has_room text fit bytes buffer all room = by (path_of_bytes bytes) refl
  where
    by : (r : Result (List Node) DevicePathError) → path_of_bytes bytes ≡ r
        → reason_shown (when_read (result_map_both (λ nodes. nodes) path_refusal r) (λ nodes. Text (utf16_units (text nodes)))) buffer ≢ BUFFER_TOO_SMALL
    by (Ok nodes) e =
        let begins = reads_path bytes nodes all e in
        let is : bytes ≡ path_bytes nodes ++ begins.0 = begins.1.join ∙ sym (append_assoc (nodes_bytes nodes) (node_bytes end_entire) begins.0) in
        first_fits (utf16_units (text nodes)) bytes (path_bytes nodes) begins.0 buffer is all room (fit nodes)
    by (Err error) e = never_room error.cause

-- the text of a node
pub node_has_room : (text : Node → List ℕ)
    → ((node : Node) → All IsByte (node_bytes node) → length (utf16_units (text node)) < text_room (node_bytes node))
    → (bytes buffer : List ℕ) → All IsByte bytes → text_room bytes ≤ length buffer
    → reason_shown (when_read (read_node bytes) (λ node. Text (utf16_units (text node)))) buffer ≢ BUFFER_TOO_SMALL
unfolding read_node
node_has_room text fit bytes buffer all room = by (node_fault bytes) refl
  where
    by : (o : Option NodeError) → node_fault bytes ≡ o
        → reason_shown (when_read (value_or o node_refusal (first_node bytes)) (λ node. Text (utf16_units (text node)))) buffer ≢ BUFFER_TOO_SMALL
    by None e = first_fits (utf16_units (text (first_node bytes))) bytes (node_bytes (first_node bytes)) _ buffer (begins_node bytes all e).1 all room (fit (first_node bytes))
    by (Some error) e = never_room error
