-- What becomes of paths that are made in a caller's buffer.
use Rattle.std.specs.Prelude.{◌≡◌, ℕ, ◌/◌, nat_lt, if◌then◌else◌, List, drop, length, take, Option, Some, None}
use Rattle.uefi_path.specs.Components.{components_of}
use Rattle.uefi_path.specs.NormalForms.{normal_of, normal_text}
use Rattle.uefi_path.specs.Separators.{with_separators}
use Rattle.uefi_path.specs.Verdicts.{verdict}
use Rattle.nardcorbel.specs.Outcomes.{Outcome, reason_shown, refusal_for, unless}
use Rattle.nardcorbel.specs.Outcomes.Outcome.{Refused, Text}
use Rattle.nardcorbel.specs.Reading.{string_of_utf8}
use Rattle.nardcorbel.specs.Reasons.{path_reason}
use Rattle.nardcorbel.specs.declared.reasons.TheConstants.{BUFFER_TOO_SMALL, NO_PARENT, OK}

-- the parent of a path, if it has one
abbrev pub parent_or_none : Option (List ℕ) → Outcome
parent_or_none None = Refused (refusal_for NO_PARENT)
parent_or_none (Some parent) = Text parent

-- the normal path of a text, each slash of which is a separator, unless that is no valid path
abbrev pub normalized : List ℕ → Outcome
normalized text =
    unless (verdict (with_separators text)) (λ error. refusal_for (path_reason error))
    (Text (normal_text (normal_of (components_of (with_separators text)))))

-- the two halves of a buffer: the second has one place more where their number is odd
abbrev pub first_half : List ℕ → List ℕ
first_half buffer = take (length buffer / 2) buffer

abbrev pub second_half : List ℕ → List ℕ
second_half buffer = drop (length buffer / 2) buffer

-- bytes are the UTF-8 of a string for which a buffer has room
abbrev pub HasStringIn : List ℕ → List ℕ → Type 0
HasStringIn bytes buffer = reason_shown (string_of_utf8 bytes) buffer ≡ OK

-- a path of this length can not begin a shorter buffer
abbrev pub unless_beyond : ℕ → List ℕ → Outcome → Outcome
unless_beyond len buffer outcome =
    if nat_lt (length buffer) len then Refused (refusal_for BUFFER_TOO_SMALL) else outcome
