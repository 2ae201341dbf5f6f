-- What is printed of units, character by character.
use Rattle.std.proofs.Common.{◌≡◌, ℕ, ◌≤◌, ◌+◌, ◌&&◌, Bool, false, true, if◌then◌else◌, List, [], ◌∷◌, ◌++◌, codes, length, drop, take, slice_index, ap, refl, sym, ◌∙◌, arith, append_assoc}
use Rattle.std.proofs.lemmas.Bool.{and_parts}
use Rattle.std.proofs.lemmas.Bool.Decides.{nat_tests}
use Rattle.std.proofs.lemmas.List.{append-nil, drop-drop, drop_all, take-append-drop}
use Rattle.std.specs.Char.Utf16.{is_high_surrogate, is_low_surrogate, lone_unit_char, utf16_chars, utf16_lossy_chars}
use Rattle.std.specs.Option.{unwrap_or}
use Rattle.std.specs.List.{concat, flat_map, list_all}
use Rattle.std.specs.Prelude.{encode_utf8}
use Rattle.std.specs.Str.{IsUtf8}
use Rattle.uefi_text.proofs.Surrogates.{lone_first}
use Rattle.uefi_device_nodes.specs.FieldTexts.{hex, shown_char, shown_units}
use Rattle.uefi_device_nodes.specs.ShownFields.{is_printable}
use Rattle.uefi_device_nodes.proofs.ShownFields.{ascii_shown, printable_char, printable_code, shown_utf8}

-- a character of what is printed
pub shown_one : (us : List ℕ) (i n c : ℕ) → utf16_lossy_chars (drop i us) ≡ c ∷ utf16_lossy_chars (drop (i + n) us)
    → shown_char c ++ shown_units (drop (i + n) us) ≡ shown_units (drop i us)
unfolding shown_units
shown_one us i n c first = ap (λ (cs : List ℕ). flat_map shown_char cs) (sym first)

-- printable ASCII is printed as it is
printable_one : (u : ℕ) (us : List ℕ) → is_printable u ≡ true → shown_units (u ∷ us) ≡ u ∷ shown_units us
unfolding shown_units shown_char
printable_one u us e =
    let is = printable_char u e in
    let none : (is_high_surrogate u && is_low_surrogate (slice_index us 0)) ≡ false = grind (arith, nat_tests, e) in
    let lone : unwrap_or (lone_unit_char u) 0xFFFD ≡ u = grind (arith, nat_tests, e) in
    ap (λ (cs : List ℕ). flat_map shown_char cs) (lone_first u us none ∙ ap (λ (c : ℕ). c ∷ utf16_lossy_chars us) lone)
    ∙ ap (λ (t : Bool). (if t then concat (codes "\\u{" ∷ hex u ∷ codes "}" ∷ []) else encode_utf8 u) ++ flat_map shown_char (utf16_lossy_chars us)) is.1
    ∙ ap (λ (xs : List ℕ). xs ++ flat_map shown_char (utf16_lossy_chars us)) (printable_code u e)

printable_front : (run us : List ℕ) → list_all is_printable run ≡ true → run ++ shown_units us ≡ shown_units (run ++ us)
printable_front [] us e = refl
printable_front (u ∷ run) us e =
    let parts = and_parts (is_printable u) (list_all is_printable run) e in
    ap (λ (xs : List ℕ). u ∷ xs) (printable_front run us parts.1) ∙ sym (printable_one u (run ++ us) parts.0)

pub shown_run : (us : List ℕ) (i n : ℕ) → list_all is_printable (take n (drop i us)) ≡ true
    → take n (drop i us) ++ shown_units (drop (i + n) us) ≡ shown_units (drop i us)
shown_run us i n e =
    ap (λ (vs : List ℕ). take n (drop i us) ++ shown_units vs) (sym (drop-drop n i us))
    ∙ printable_front (take n (drop i us)) (drop n (drop i us)) e
    ∙ ap shown_units (take-append-drop n (drop i us))

-- it is a Rust text
pub printable_utf8 : (text : List ℕ) → list_all is_printable text ≡ true → IsUtf8 text
printable_utf8 text e = shown_utf8 text (ascii_shown text e)

-- a part more of what is printed
pub shown_step : (so_far part us : List ℕ) (i n : ℕ) → so_far ++ shown_units (drop i us) ≡ shown_units us
    → part ++ shown_units (drop (i + n) us) ≡ shown_units (drop i us)
    → (so_far ++ part) ++ shown_units (drop (i + n) us) ≡ shown_units us
shown_step so_far part us i n rest more =
    append_assoc so_far part (shown_units (drop (i + n) us)) ∙ ap (λ (xs : List ℕ). so_far ++ xs) more ∙ rest

-- and all of it
pub shown_all : (so_far us : List ℕ) (i : ℕ) → so_far ++ shown_units (drop i us) ≡ shown_units us → length us ≤ i → so_far ≡ shown_units us
unfolding shown_units utf16_chars
shown_all so_far us i rest past =
    sym (append-nil so_far) ∙ ap (λ (vs : List ℕ). so_far ++ flat_map shown_char (utf16_lossy_chars vs)) (sym (drop_all i us past)) ∙ rest
