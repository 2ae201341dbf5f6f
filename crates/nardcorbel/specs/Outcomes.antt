-- What a caller in C sees of a call: what it returns, the numbers in `len` and `fault`, and its buffer.
use Rattle.std.specs.Prelude.{◌≡◌, ℕ, ◌-◌, ◌^◌, min, nat_lt, if◌then◌else◌, List, [], length, Option, None, Some, Result, Ok, Err}
use Rattle.uefi_text.specs.UnalignedCStr16.{with_prefix}
use Rattle.uefi_text.specs.Units.{nul_terminated}
use Rattle.nardcorbel.specs.declared.outcomes.Refusal.{Refusal}
use Rattle.nardcorbel.specs.declared.reasons.TheConstants.{OK, BUFFER_TOO_SMALL}

-- what becomes of a call: a number, a text that is written with a NUL, other content that is written, or a
-- refusal
pub data Outcome : Type 0 where
  Number : ℕ → Outcome
  Text : List ℕ → Outcome
  Content : List ℕ → Outcome
  Refused : Refusal → Outcome

-- the refusal for a reason and the place at fault
abbrev pub refusal_at : ℕ → ℕ → Refusal
refusal_at reason place = record { reason = reason; needed = None; fault = Some place }

-- the refusal for a reason that has no place: both numbers stay
abbrev pub refusal_for : ℕ → Refusal
refusal_for reason = record { reason = reason; needed = None; fault = None }

-- a buffer is too small for a result of this length
abbrev pub too_small : ℕ → Refusal
too_small needed = record { reason = BUFFER_TOO_SMALL; needed = Some needed; fault = None }

-- what becomes of a call by what it reads first
abbrev pub when_read : {A : Type 0} → Result A Refusal → (A → Outcome) → Outcome
when_read (Ok value) next = next value
when_read (Err refusal) next = Refused refusal

-- what becomes of a call, unless there is an error
abbrev pub unless : {E : Type 0} → Option E → (E → Refusal) → Outcome → Outcome
unless None refusal outcome = outcome
unless (Some error) refusal outcome = Refused (refusal error)

-- whether a text and its NUL fit into a buffer
abbrev pub room_reason : List ℕ → List ℕ → ℕ
room_reason text buffer = if nat_lt (length text) (length buffer) then OK else BUFFER_TOO_SMALL

-- what is returned, by the buffer before the call
abbrev pub reason_shown : Outcome → List ℕ → ℕ
reason_shown (Number number) buffer = OK
reason_shown (Text text) buffer = room_reason text buffer
reason_shown (Content content) buffer =
    if nat_lt (length buffer) (length content) then BUFFER_TOO_SMALL else OK
reason_shown (Refused refusal) buffer = refusal.reason

-- a number that a refusal has, or the one that was there
abbrev pub number_or : Option ℕ → ℕ → ℕ
number_or None before = before
number_or (Some number) before = number

-- the length of a text, as far as a `usize` counts it with the NUL
abbrev pub length_shown : List ℕ → ℕ
length_shown text = min (length text) (2 ^ 64 - 2)

-- the number in `len`, by the one before: of what is written, or has no room, its length
abbrev pub len_shown : Outcome → ℕ → ℕ
len_shown (Number number) before = number
len_shown (Text text) before = length_shown text
len_shown (Content content) before = min (length content) (2 ^ 64 - 1)
len_shown (Refused refusal) before = number_or refusal.needed before

-- the number in `fault`, by the one before
abbrev pub fault_shown : Outcome → ℕ → ℕ
fault_shown (Number number) before = before
fault_shown (Text text) before = before
fault_shown (Content content) before = before
fault_shown (Refused refusal) before = number_or refusal.fault before

-- what the buffer holds: what has no room leaves it unchanged
abbrev pub buffer_shown : Outcome → List ℕ → List ℕ
buffer_shown (Number number) buffer = buffer
buffer_shown (Text text) buffer = with_prefix (nul_terminated text) buffer
buffer_shown (Content content) buffer = with_prefix content buffer
buffer_shown (Refused refusal) buffer = buffer

-- a caller sees this outcome: of the numbers `before` and `wrong` and a buffer `old` there are now
-- `number`, `place` and `new`
pub record Shows (outcome : Outcome) (before wrong : ℕ) (old : List ℕ) (returned number place : ℕ)
    (new : List ℕ) : Type 0 where
  pub reason : returned ≡ reason_shown outcome old
  pub len : number ≡ len_shown outcome before
  pub fault : place ≡ fault_shown outcome wrong
  pub buffer : new ≡ buffer_shown outcome old

-- the same of a call without a buffer
abbrev pub ShowsNumber : Outcome → ℕ → ℕ → ℕ → ℕ → ℕ → Type 0
ShowsNumber outcome before wrong returned number place =
    Shows outcome before wrong [] returned number place []
