-- What is passed over around the nodes of a text: nothing of a text that begins as a printed one does.
use Rattle.std.proofs.Common.{◌≡◌, ℕ, suc, ◌+◌, ◌-◌, ◌≤◌, Bool, true, false, cond, List, [], ◌∷◌, length, drop, refl, ap, ◌∙◌, length-drop, arith}
use Rattle.std.specs.Prelude.{◌==◌, ◌&&◌, ◌||◌, not}
use Rattle.std.specs.Char.{is_ascii_whitespace}
use Rattle.std.specs.List.{prefix_len, suffix_len}
use Rattle.std.proofs.lemmas.Bool.{not-true, or_parts}
use Rattle.std.proofs.lemmas.List.{drop-drop, length-take}
use Rattle.uefi_device_path.specs.AroundNodes.{after_first, before_closing, before_last, first_byte, first_place, is_mark, is_quoted, is_slashed, last_byte, may_begin, past_slash}
use Rattle.uefi_node_reader.specs.NamedFiles.{before_spaces, past_spaces}
use Rattle.uefi_node_reader.specs.TableReading.{first_of, is_empty}
use Rattle.uefi_node_reader.specs.declared.styles.TextStyle.{TextStyle}
use Rattle.uefi_node_reader.specs.declared.styles.TextStyle.TheVariants.{Printed, Lenient, Libefivar}

-- blanks at the start of a text, as std counts them
pub past_spaces-drop : (text : List ℕ) → past_spaces text ≡ drop (prefix_len is_ascii_whitespace text) text
past_spaces-drop [] = refl
past_spaces-drop (c ∷ cs) = by (is_ascii_whitespace c) (past_spaces-drop cs)
  where
    left : ℕ
    left = prefix_len is_ascii_whitespace cs

    by : (b : Bool) → past_spaces cs ≡ drop left cs → cond b (past_spaces cs) (c ∷ cs) ≡ drop (cond b (1 + left) 0) (c ∷ cs)
    by true e =
        let one : suc left ≡ 1 + left = omega arith in
        e ∙ ap (λ (n : ℕ). drop n (c ∷ cs)) one
    by false e = refl

-- a part of a text that it ends with
abbrev pub Ends : List ℕ → List ℕ → Type 0
Ends text part = (k : ℕ) × (part ≡ drop k text)

pub ends_within : (text part : List ℕ) → Ends text part → length part ≤ length text
ends_within text part (k, is) = omega (arith, ap length is, length-drop k text)

pub ends_more : (text part rest : List ℕ) (n : ℕ) → Ends text part → rest ≡ drop n part → Ends text rest
ends_more text part rest n (k, is) e = (k + n, e ∙ ap (drop n) is ∙ drop-drop n k text)

after_first-ends : (text : List ℕ) → Ends text (after_first text)
after_first-ends text = ends_more text (past_spaces text) (after_first text) 1 (prefix_len is_ascii_whitespace text, past_spaces-drop text) refl

past_slash-ends : (text : List ℕ) → Ends text (past_slash text)
past_slash-ends text = by (is_slashed text)
  where
    by : (b : Bool) → Ends text (cond b (after_first text) text)
    by true = after_first-ends text
    by false = (0, refl)

pub past_slash-within : (text : List ℕ) → length (past_slash text) ≤ length text
past_slash-within text = ends_within text (past_slash text) (past_slash-ends text)

pub before_last-within : (text : List ℕ) → length (before_last text) ≤ length text
before_last-within text =
    omega (
      arith,
      length-take (length (before_spaces text) - 1) (before_spaces text),
      length-take (length text - suffix_len is_ascii_whitespace text) text,
    )

pub place_ends : (style : TextStyle) (text : List ℕ) → Ends (before_closing style text) (first_place style text)
place_ends Lenient text = by (is_quoted text)
  where
    by : (b : Bool) → Ends (cond b (before_last text) text) (past_slash (cond b (after_first (before_last text)) text))
    by true =
        let inside = after_first-ends (before_last text) in
        let rest = past_slash-ends (after_first (before_last text)) in
        ends_more (before_last text) (after_first (before_last text)) (past_slash (after_first (before_last text))) rest.0 inside rest.1
    by false = past_slash-ends text
place_ends Printed text = (0, refl)
place_ends Libefivar text = (0, refl)

pub closing_within : (style : TextStyle) (text : List ℕ) → length (before_closing style text) ≤ length text
closing_within Lenient text = by (is_quoted text)
  where
    by : (b : Bool) → length (cond b (before_last text) text) ≤ length text
    by true = before_last-within text
    by false = omega arith
closing_within Printed text = omega arith
closing_within Libefivar text = omega arith

-- the test for a byte that is passed over before the first node, and for a text that begins with none
abbrev pub is_passed : ℕ → Bool
is_passed byte = is_ascii_whitespace byte || (is_mark byte || (byte == 47))

abbrev pub is_clear : List ℕ → Bool
is_clear [] = true
is_clear (c ∷ cs) = not (is_passed c)

-- nothing of such a text is passed over
all_of_clear : (text : List ℕ) → is_clear text ≡ true → (is_quoted text ≡ false) × (is_slashed text ≡ false)
all_of_clear [] e = (refl, refl)
all_of_clear (c ∷ cs) e =
    let parts = or_parts (is_ascii_whitespace c) (is_mark c || (c == 47)) (not-true (is_passed c) e) in
    let others = or_parts (is_mark c) (c == 47) parts.1 in
    let none : past_spaces (c ∷ cs) ≡ c ∷ cs = ap (λ (b : Bool). cond b (past_spaces cs) (c ∷ cs)) parts.0 in
    let mark : is_mark (first_byte (c ∷ cs)) ≡ false = ap (λ (x : List ℕ). is_mark (first_of x)) none ∙ others.0 in
    let slash : (first_byte (c ∷ cs) == 47) ≡ false = ap (λ (x : List ℕ). first_of x == 47) none ∙ others.1 in (
      ap (λ (b : Bool). (b && (last_byte (c ∷ cs) == first_byte (c ∷ cs))) && not (is_empty (past_spaces (after_first (before_last (c ∷ cs)))))) mark,
      ap (λ (b : Bool). b && may_begin (past_spaces (after_first (c ∷ cs)))) slash,
    )

pub all_is_read : (style : TextStyle) (text : List ℕ) → is_clear text ≡ true
    → (before_closing style text ≡ text) × (first_place style text ≡ text)
all_is_read Lenient text e =
    let is = all_of_clear text e in (
      ap (λ (b : Bool). cond b (before_last text) text) is.0,
      ap (λ (b : Bool). past_slash (cond b (after_first (before_last text)) text)) is.0 ∙ ap (λ (b : Bool). cond b (after_first text) text) is.1,
    )
all_is_read Printed text e = (refl, refl)
all_is_read Libefivar text e = (refl, refl)
