-- What a caller in C sees of names on FAT volumes.
use Rattle.std.specs.Prelude.{◌≡◌, ℕ, Bool, min, if◌then◌else◌, List, length, take}
use Rattle.std.specs.List.{list_any}
use Rattle.uefi_text.specs.FromStrWithBuf.{with_units}
use Rattle.uefi_fat.specs.LongNames.{name_refusal}
use Rattle.uefi_fat.specs.Oem.{fat_bytes, is_unfit, kept_units}
use Rattle.nardcorbel.specs.Outcomes.{Outcome, refusal_for, unless}
use Rattle.nardcorbel.specs.Outcomes.Outcome.{Number}
use Rattle.nardcorbel.specs.Reasons.{fat_name_reason}
use Rattle.nardcorbel.specs.declared.reasons.TheConstants.{CHAR_REPLACED, OK}

-- the length of a text that a file can have as its name
abbrev pub checked_name : List ℕ → Outcome
checked_name text =
    unless (name_refusal text) (λ error. refusal_for (fat_name_reason error))
    (Number (length text))

-- whether a character was written in place of another
abbrev pub replaced_reason : Bool → ℕ
replaced_reason is_replaced = if is_replaced then CHAR_REPLACED else OK

-- as many characters of a text as have room are written, in the bytes of short names
pub record ShowsFat (text old : List ℕ) (returned number : ℕ) (new : List ℕ) : Type 0 where
  pub reason : returned ≡ replaced_reason (list_any is_unfit (take (length old) (kept_units text)))
  pub place : number ≡ min (length (fat_bytes text)) (length old)
  pub bytes : new ≡ with_units (fat_bytes text) old
