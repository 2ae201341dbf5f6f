-- What holds of every value of a type.
use Rattle.std.specs.List.{list_any}
use Rattle.std.proofs.Common.{◌≡◌, ◌≢◌, ◌∙◌, All, Result, Ok, Err, Some, inl, inr, refl, arith}
use Rattle.std.proofs.lemmas.Bool.{cases_Bool}
use Rattle.std.proofs.lemmas.Grind.{common_steps}
use Rattle.std.proofs.lemmas.List.Elements.{All-weaker}
use Rattle.std.specs.Result.{OnErr}
use Rattle.uefi_text.specs.Units.{IsText, IsTextUnit, is_nul}
use Rattle.uefi_text.specs.FromStr.{from_str_refusal}
use Rattle.uefi_text.specs.declared.errors.FromStrError.TheVariants.{InteriorNul}
use Rattle.uefi_text.proofs.Accepting.{from_str-characters}
use Rattle.uefi_text.proofs.Scanning.{none_is_nul}
use Rattle.uefi_text.specs.Views.{text_of, units_of}
use Rattle.uefi_text.specs.declared.strings.strs.CStr16.{CStr16}
use Rattle.uefi_text.specs.declared.strings.strs.Char16Slice.{Char16Slice}

-- what a borrowed string shows is a text
pub IsText-text_of : (string : CStr16) → IsText (text_of string)
unfolding text_of
IsText-text_of string = string.is_string.1

-- so no NUL is in it
pub no_nul-text_of : (string : CStr16) → All (λ unit. unit ≢ 0) (text_of string)
no_nul-text_of string = All-weaker IsTextUnit (λ unit. unit ≢ 0) (λ unit is_unit. grind (arith, common_steps)) (text_of string) (IsText-text_of string)

-- characters with a NUL among them are refused for it
pub from_str_refusal-units_of : (part : Char16Slice) → ¬ All (λ unit. unit ≢ 0) (units_of part)
    → from_str_refusal (units_of part) ≡ Some InteriorNul
unfolding units_of
from_str_refusal-units_of part has_nul =
    let units = part.units.now in
    let refusal = from_str-characters units part.are_characters in
    elim (cases_Bool (list_any is_nul units)) [
      | inl found ↦ refusal ∙ rw found refl
      | inr none ↦ absurd (has_nul ((none_is_nul units).0 none))
    ]

-- what characters side by side show is a text where no NUL is among it
pub IsText-units_of : (part : Char16Slice) → All (λ unit. unit ≢ 0) (units_of part) → IsText (units_of part)
unfolding units_of
IsText-units_of part no_nul k d inside =
    let character = part.are_characters k d inside in
    let other = no_nul k d inside in
    grind (arith, common_steps)

-- what holds in any case holds where there is an error
pub on_err : {T E P : Type 0} (r : Result T E) → P → OnErr r P
on_err (Ok value) p = tt
on_err (Err error) p = p
