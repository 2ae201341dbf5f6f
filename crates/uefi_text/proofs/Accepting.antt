-- What constructors accept, from what they refuse.
use Rattle.std.specs.List.{find, list_any}
use Rattle.std.specs.Option.{unwrap_or}
use Rattle.std.specs.Result.{IsOk, result_err}
use Rattle.std.proofs.Common.{◌≡◌, ◌↔◌, ℕ, ◌+◌, ◌<◌, ◌==◌, ◌^◌, ◌∙◌, if◌then◌else◌, ap, sym, refl, true, false, All, List, [], ◌∷◌, ◌++◌, append_assoc, length, get_or, take, drop, None, Option, Some, Ok, Err, Result, position, Contains, inl, inr, arith}
use Rattle.std.proofs.lemmas.Bool.{cases_Bool, false≢true, lt-ltb}
use Rattle.std.proofs.lemmas.List.{get_or_append_left, length-append, take-append-drop, take_more}
use Rattle.std.proofs.lemmas.List.Elements.{All-head, All-tail}
use Rattle.std.proofs.lemmas.List.Quantifiers.{position-Some}
use Rattle.std.proofs.lemmas.Grind.{common_steps}
use Rattle.std.proofs.Math.Seq.{get_or-append_seam}
use Rattle.std.proofs.Math.Utf8.{scalars}
use Rattle.uefi_text.specs.Units.{BeginsWithString, IsChar16, IsNulTerminated, IsString, IsText, IsTextUnit, deciding_place, is_deciding, is_nul, nul_terminated}
use Rattle.uefi_text.specs.FromSliceUntilNul.{missing_nul_refusal, missing_nul_refusal_at, until_nul_refusal}
use Rattle.uefi_text.specs.FromSliceWithNul.{first_nul_refusal, first_nul_refusal_at, with_nul_refusal}
use Rattle.uefi_text.specs.FromStr.{from_str_refusal, is_deciding_char, refusal_of_char}
use Rattle.uefi_text.specs.FromStrWithBuf.{from_str_with_buf_refusal, utf16}
use Rattle.uefi_text.specs.Packed.{IsByte}
use Rattle.uefi_text.specs.UnitBytes.{BytesEncode, ends_in_nul, unit_bytes_refusal, units_of_bytes}
use Rattle.uefi_text.specs.declared.errors.FromSliceUntilNulError.{FromSliceUntilNulError}
use Rattle.uefi_text.specs.declared.errors.FromSliceUntilNulError.TheVariants as until_nul
use Rattle.uefi_text.specs.declared.errors.FromSliceWithNulError.{FromSliceWithNulError}
use Rattle.uefi_text.specs.declared.errors.FromSliceWithNulError.TheVariants as with_nul
use Rattle.uefi_text.specs.declared.errors.FromStrError.{FromStrError}
use Rattle.uefi_text.specs.declared.errors.FromStrError.TheVariants as from_str
use Rattle.uefi_text.proofs.Deciding.{IsLatin1String-nul_last, IsText-before, first_nul_refusal-IsLatin1String, with_nul_refusal-IsString, with_nul_refusal-memory}
use Rattle.uefi_text.proofs.Finding.{position-None}
use Rattle.uefi_text.proofs.Scanning.{position-at, position-nowhere}
use Rattle.uefi_text.proofs.Texts.{IsText-chars, undecided-IsText}
use Rattle.uefi_text.proofs.UnitBytes.{accepted_encodes, encoded_accepted}
use Rattle.uefi_text.proofs.Utf16.{unrefused, utf16-undecided}

-- a call accepts exactly where it does not refuse
pub accepts-unrefused : {T E P : Type 0} (r : Result T E) → (result_err r ≡ None) ↔ P → IsOk r ↔ P
accepts-unrefused (Ok value) exact = (λ _. exact.0 refl, λ _. refl)
accepts-unrefused (Err error) exact = (λ no. absurd (false≢true no), λ p. let none = exact.1 p in absurd (cc))

-- units that are refused are no string, and not refused as out of memory
pub with_nul-refused : (units : List ℕ) (error : FromSliceWithNulError) → Some error ≡ with_nul_refusal units
    → (error ≡ with_nul.OutOfMemory) ↔ IsString units
with_nul-refused units error refused = (
  λ e.
      let want = sym e ∙ ap (λ refusal. unwrap_or refusal with_nul.OutOfMemory) refused in
      let none = with_nul_refusal-memory units want in
      absurd (cc),
  λ string. let none = with_nul_refusal-IsString units string in absurd (cc),
)

-- a unit of a text does not decide
undecided-unit : (u : ℕ) → IsTextUnit u → is_deciding u ≡ false
undecided-unit u unit = grind (arith, common_steps)

-- where a text and its NUL stand first, the NUL decides
begins-deciding : (text rest : List ℕ) → IsText text → deciding_place (nul_terminated text ++ rest) ≡ Some (length text)
begins-deciding text rest is_text =
    let units = text ++ 0 ∷ rest in
    let inside : length text < length units = omega (arith, length-append text (0 ∷ rest)) in
    let none : (k : ℕ) → k < length text → is_deciding (get_or units k 0) ≡ false =
    λ k h. rw (get_or_append_left text (0 ∷ rest) 0 k h) (undecided-unit (get_or text k 0) (is_text k 0 h)) in
    let passes : is_deciding (get_or units (length text) 0) ≡ true = rw (get_or-append_seam text 0 rest 0) refl in
    rw (append_assoc text (0 ∷ []) rest) (sym (position-at is_deciding units (length text) inside none passes))

-- units that begin with a string are not refused
pub until_nul_refusal-begins : (units : List ℕ) → BeginsWithString units → until_nul_refusal units ≡ None
until_nul_refusal-begins units begins =
    let text = begins.0 in
    let place : deciding_place units ≡ Some (length text) = ap deciding_place begins.3 ∙ begins-deciding text begins.1 begins.2 in
    let same : units ≡ text ++ 0 ∷ begins.1 = begins.3 ∙ append_assoc text (0 ∷ []) begins.1 in
    let is_zero : get_or units (length text) 0 ≡ 0 = ap (λ us. get_or us (length text) 0) same ∙ get_or-append_seam text 0 begins.1 0 in
    rw (place, is_zero) refl

-- and where a NUL decides, they begin with one
pub begins-deciding_nul : (units : List ℕ) (i : ℕ) → ((k : ℕ) → get_or units k 0 < 2 ^ 16)
    → deciding_place units ≡ Some i → get_or units i 0 ≡ 0 → BeginsWithString units
begins-deciding_nul units i small place is_zero =
    let found = position-Some is_deciding units i 0 place in
    let ended : take (i + 1) units ≡ nul_terminated (take i units) =
    take_more units i 0 found.0 ∙ ap (λ u. take i units ++ u ∷ []) is_zero in
    let whole : units ≡ nul_terminated (take i units) ++ drop (i + 1) units =
    sym (take-append-drop (i + 1) units) ∙ ap (λ front. front ++ drop (i + 1) units) ended in
    (take i units, drop (i + 1) units, IsText-before units i small place, whole)

-- characters are out of memory exactly where a NUL is among them
pub missing_nul-memory : (characters : List ℕ) (error : FromSliceUntilNulError)
    → error ≡ unwrap_or (missing_nul_refusal characters) until_nul.OutOfMemory
    → (error ≡ until_nul.OutOfMemory) ↔ Contains characters 0
missing_nul-memory characters error is = go (position is_nul characters) refl is
  where
    go : (o : Option ℕ) → position is_nul characters ≡ o → error ≡ unwrap_or (missing_nul_refusal_at o) until_nul.OutOfMemory
        → (error ≡ until_nul.OutOfMemory) ↔ Contains characters 0
    go None e w = (
      λ memory. absurd (cc),
      λ contains.
          let other = position-None is_nul characters e contains.0 contains.1 in
          let is_zero : get_or characters contains.0 0 ≡ 0 = contains.2 in
          absurd (grind (arith, common_steps)),
    )
    go (Some i) e w =
        let found = position-Some is_nul characters i 0 e in
        let is_zero : get_or characters i 0 ≡ 0 = grind (arith, common_steps, found.1) in
        (λ _. (i, found.0, is_zero), λ _. w)

-- characters are out of memory exactly where their last alone is a NUL
pub first_nul-memory : (elements : List ℕ) (error : FromSliceWithNulError)
    → error ≡ unwrap_or (first_nul_refusal elements) with_nul.OutOfMemory
    → (error ≡ with_nul.OutOfMemory) ↔ IsNulTerminated elements
first_nul-memory elements error is = (
  λ e. ended (position is_nul elements) refl (sym e ∙ is),
  λ string. is ∙ ap (λ refusal. unwrap_or refusal with_nul.OutOfMemory) (first_nul_refusal-IsLatin1String elements string),
)
  where
    ended : (o : Option ℕ) → position is_nul elements ≡ o
        → with_nul.OutOfMemory ≡ unwrap_or (first_nul_refusal_at elements o) with_nul.OutOfMemory → IsNulTerminated elements
    ended None e w = absurd (cc)
    ended (Some i) e w =
        let last : i + 1 ≡ length elements = grind (arith, common_steps) in
        IsLatin1String-nul_last elements i e last

-- characters of Rust are out of memory exactly where they are a text
pub from_str-memory : (cs : List ℕ) → scalars cs ≡ true → (error : FromStrError)
    → error ≡ unwrap_or (from_str_refusal cs) from_str.OutOfMemory → (error ≡ from_str.OutOfMemory) ↔ IsText cs
from_str-memory cs are_scalars error is = (
  λ e. IsText-chars cs are_scalars (nothing_found (find is_deciding_char cs) (sym e ∙ is)),
  λ is_text. is ∙ ap (λ found. unwrap_or (refusal_of_char found) from_str.OutOfMemory) (undecided-IsText cs is_text),
)
  where
    nothing_found : (found : Option ℕ) → from_str.OutOfMemory ≡ unwrap_or (refusal_of_char found) from_str.OutOfMemory → found ≡ None
    nothing_found None e = refl
    nothing_found (Some c) e = absurd (grind (arith, common_steps))

-- characters of UCS-2 are refused for a NUL alone
pub from_str-characters : (units : List ℕ) → All IsChar16 units
    → from_str_refusal units ≡ (if list_any is_nul units then Some from_str.InteriorNul else None)
from_str-characters [] are_characters = refl
from_str-characters (u ∷ us) are_characters =
    let first : IsChar16 u = All-head IsChar16 u us are_characters in
    let rest = from_str-characters us (All-tail IsChar16 u us are_characters) in
    elim (cases_Bool (u == 0)) [ inl nul ↦ grind (arith, common_steps) | inr other ↦ grind (arith, common_steps) ]

-- characters are accepted at a buffer exactly where they are a text, and fewer than its places
pub with_buf-accepts : (cs : List ℕ) (room : ℕ) → scalars cs ≡ true
    → (from_str_with_buf_refusal cs room ≡ None) ↔ (IsText cs × (length cs < room))
with_buf-accepts cs room are_scalars = (
  λ none.
      let fits : length (utf16 cs) < room = grind (arith, common_steps) in
      let units = unrefused cs (grind (arith, common_steps)) in
      (IsText-chars cs are_scalars units.0, omega (arith, ap length units.1)),
  λ accepted.
      let found = undecided-IsText cs accepted.0 in
      let same = utf16-undecided cs found in
      let undecided : (k : ℕ) → k < length cs → is_deciding_char (get_or cs k 0) ≡ false =
      λ k h. let unit = accepted.0 k 0 h in grind (arith, common_steps) in
      let nowhere = position-nowhere is_deciding_char cs undecided in
      let fits : length (utf16 cs) < room = omega (arith, ap length same, accepted.1) in
      rw (lt-ltb (length (utf16 cs)) room fits, ← nowhere) refl,
)

-- bytes are out of memory exactly where they encode a text
pub unit_bytes-memory : (bytes : List ℕ) → All IsByte bytes → (error : FromSliceWithNulError)
    → error ≡ unwrap_or (unit_bytes_refusal bytes) with_nul.OutOfMemory
    → (error ≡ with_nul.OutOfMemory) ↔ ((text : List ℕ) × BytesEncode bytes text)
unit_bytes-memory bytes are_bytes error is = (
  λ e. accepted_encodes bytes are_bytes (unrefused_bytes (sym e ∙ is)),
  λ encoded.
      is ∙ ap (λ refusal. unwrap_or refusal with_nul.OutOfMemory) (encoded_accepted bytes encoded.0 encoded.1),
)
  where
    unrefused_bytes : with_nul.OutOfMemory ≡ unwrap_or (unit_bytes_refusal bytes) with_nul.OutOfMemory → unit_bytes_refusal bytes ≡ None
    unrefused_bytes w =
        elim (cases_Bool (ends_in_nul bytes)) [
          | inl ended ↦
              let want : with_nul.OutOfMemory ≡ unwrap_or (with_nul_refusal (units_of_bytes bytes)) with_nul.OutOfMemory = rw ended at w in
              rw ended (with_nul_refusal-memory (units_of_bytes bytes) want)
          | inr other ↦ absurd (grind (arith, common_steps))
        ]
