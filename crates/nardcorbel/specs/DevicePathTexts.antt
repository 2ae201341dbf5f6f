-- Device paths from texts in UTF-8 and in UTF-16.
use Rattle.std.specs.Prelude.{ℕ, if◌then◌else◌, List, [], Option, Some, None, Result}
use Rattle.std.specs.Result.{result_map_both}
use Rattle.uefi_device_path.specs.Building.{ends_at}
use Rattle.uefi_device_path.specs.Paths.{path_bytes}
use Rattle.uefi_device_path.specs.StyledReading.{path_read, text_extent}
use Rattle.uefi_device_path.specs.TextErrorTexts.{text_fault_text}
use Rattle.uefi_device_path.specs.TextStyle.{TextStyle}
use Rattle.uefi_device_path.specs.Utf16Texts.{paired_chars, units_within, utf16_read}
use Rattle.uefi_device_path.specs.declared.text.text_errors.PushTextError.{PushTextError}
use Rattle.uefi_device_path.specs.declared.text.text_errors.PushTextError.TheVariants.{BufferTooSmall, NoNode, Path}
use Rattle.uefi_device_path.specs.declared.text.text_errors.TextFault.{TextFault}
use Rattle.nardcorbel.specs.Outcomes.{Outcome, refusal_at, when_read}
use Rattle.nardcorbel.specs.Outcomes.Outcome.{Content, Number, Refused, Text}
use Rattle.nardcorbel.specs.PathEnds.{extended, missing_end}
use Rattle.nardcorbel.specs.Refusals.{fault_refusal, path_refusal}
use Rattle.nardcorbel.specs.declared.outcomes.Refusal.{Refusal}
use Rattle.nardcorbel.specs.declared.reasons.TheConstants.{INVALID_CHAR, NO_NODE}

-- units as UTF-8
unfoldable pub read_utf16 : List ℕ → Result (List ℕ) Refusal
read_utf16 units = result_map_both (λ text. text) (refusal_at INVALID_CHAR) (utf16_read units)

-- the fault of the UTF-8 of units, with its places in the units
abbrev pub fault_in_units : List ℕ → TextFault → TextFault
fault_in_units units fault = record {
  node = units_within fault.node (paired_chars units);
  byte = units_within fault.byte (paired_chars units);
  expected = fault.expected;
}

abbrev pub error_in_units : List ℕ → PushTextError → PushTextError
error_in_units units (NoNode fault) = NoNode (fault_in_units units fault)
error_in_units units (Path error) = Path error
error_in_units units (BufferTooSmall needed) = BufferTooSmall needed

abbrev pub refused_in_units : List ℕ → TextFault → Refusal
refused_in_units units fault = fault_refusal (fault_in_units units fault)

-- the nodes of a text in a style are a path, or the text is refused for its fault
abbrev pub parsed : (TextFault → Refusal) → TextStyle → List ℕ → Outcome
parsed refused style text =
    when_read (result_map_both (λ nodes. nodes) refused (path_read style text))
    (λ nodes. Content (path_bytes nodes))

-- they are added at the end node with which the first `len` bytes end
abbrev pub pushed_text : (TextFault → Refusal) → ℕ → List ℕ → TextStyle → List ℕ → Outcome
pushed_text refused len buffer style text =
    if ends_at buffer len
    then when_read (result_map_both (λ nodes. nodes) refused (path_read style text))
    (λ nodes. Content (extended len buffer nodes))
    else Refused (path_refusal (missing_end len))

-- the fault of a text whose nodes are not added, if that is why
abbrev pub fault_in : PushTextError → Option TextFault
fault_in (NoNode fault) = Some fault
fault_in error = None

-- the fault in words, or nothing
abbrev pub fault_text : Option TextFault → List ℕ
fault_text None = []
fault_text (Some fault) = text_fault_text fault

-- a fault in words, in an encoding
abbrev pub fault_outcome : (List ℕ → List ℕ) → Option TextFault → Outcome
fault_outcome encode fault = Text (encode (fault_text fault))

-- how many bytes of a text are the path that it begins with, or the byte that is wrong
abbrev pub extent_outcome : TextStyle → List ℕ → Outcome
extent_outcome style text =
    when_read (result_map_both (λ end. end) (λ fault. refusal_at NO_NODE fault.byte) (text_extent style text))
    Number
