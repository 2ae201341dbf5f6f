-- One of two lists is a prefix of the other exactly where they agree at each place that both have.
use Rattle.std.proofs.Common.{◌≡◌, ◌≢◌, ◌∙◌, ◌++◌, ap, sym, subst, take, drop, ◌↔◌, ℕ, Bool, true, false, List, [], ◌∷◌, All, length, IsTrue, refl, inl, inr, arith}
use Rattle.std.proofs.lemmas.Bool.{false≢true}
use Rattle.std.proofs.lemmas.List.Elements.{All-cons, All-head, All-nil, All-tail}
use Rattle.std.specs.List.{before_first}
use Rattle.std.specs.Prelude.{encode_utf8}
use Rattle.std.specs.Str.{chars, IsUtf8}
use Rattle.std.proofs.lemmas.List.{take-append-drop}
use Rattle.std.proofs.lemmas.Grind.{common_steps}
use Rattle.std.proofs.lemmas.Str.{chars_past_char}
use Rattle.uefi_text.specs.EqStrUntilNul.{IsEqualUntilNul, OneIsPrefixOfOther}
use Rattle.uefi_text.specs.Scans.{IsAsciiTextByte}
use Rattle.uefi_text.specs.Units.{is_nul}
use Rattle.uefi_text.proofs.Texts.{chars_end}
use Rattle.uefi_text.proofs.Utf8Bytes.{ascii_text_no_nul, ascii_text_then}

longer : (x y : ℕ) (xs ys : List ℕ) → x ≡ y → OneIsPrefixOfOther xs ys → OneIsPrefixOfOther (x ∷ xs) (y ∷ ys)
longer x y xs ys e (inl first) = inl (first.0, cc (first.1))
longer x y xs ys e (inr second) = inr (second.0, cc (second.1))

shorter : (x y : ℕ) (xs ys : List ℕ) → OneIsPrefixOfOther (x ∷ xs) (y ∷ ys) → (x ≡ y) × OneIsPrefixOfOther xs ys
shorter x y xs ys (inl first) = let e = first.1 in (cc, inl (first.0, cc))
shorter x y xs ys (inr second) = let e = second.1 in (cc, inr (second.0, cc))

before_nul-cons : (c : ℕ) (cs : List ℕ) → c ≢ 0 → before_first is_nul (c ∷ cs) ≡ c ∷ before_first is_nul cs
before_nul-cons c cs other = let no : is_nul c ≡ false = grind (arith, common_steps) in grind (arith, common_steps)

-- elements that are not NUL, in front of both, decide nothing
begins_after : (front us cs : List ℕ) → All (λ c. c ≢ 0) front → IsEqualUntilNul us cs → IsEqualUntilNul (front ++ us) (front ++ cs)
begins_after [] us cs no_nul begins = begins
begins_after (c ∷ front) us cs no_nul begins =
    let first = before_nul-cons c (front ++ cs) (All-head (λ c. c ≢ 0) c front no_nul) in
    subst (OneIsPrefixOfOther (c ∷ front ++ us)) (sym first)
    (longer c c (front ++ us) (before_first is_nul (front ++ cs)) refl (begins_after front us cs (All-tail (λ c. c ≢ 0) c front no_nul) begins))

before_begins : (front us cs : List ℕ) → All (λ c. c ≢ 0) front → IsEqualUntilNul (front ++ us) (front ++ cs) → IsEqualUntilNul us cs
before_begins [] us cs no_nul begins = begins
before_begins (c ∷ front) us cs no_nul begins =
    let first = before_nul-cons c (front ++ cs) (All-head (λ c. c ≢ 0) c front no_nul) in
    before_begins front us cs (All-tail (λ c. c ≢ 0) c front no_nul)
    (shorter c c (front ++ us) (before_first is_nul (front ++ cs)) (subst (OneIsPrefixOfOther (c ∷ front ++ us)) first begins)).1

-- a comparison in which what is left of the units and of the text decides
module _ {E : Type 0} (us bs : List ℕ) (same : E ↔ IsEqualUntilNul us (chars bs)) where
  pub no_unit_left : us ≡ [] → IsTrue true ↔ E
  no_unit_left none = (λ _. same.1 (subst (λ xs. IsEqualUntilNul xs (chars bs)) (sym none) (inl (_, refl))), λ _. refl)

  pub no_character_left : length bs ≡ 0 → IsTrue true ↔ E
  no_character_left none =
      (λ _. same.1 (subst (IsEqualUntilNul us) (chars_end [] bs (chars bs) none refl) (inr (us, refl))), λ _. refl)

  -- the next character
  module _ (c : ℕ) (rest : List ℕ) (utf8 : IsUtf8 bs) (read : bs ≡ encode_utf8 c ++ rest) where
    pub nul_is_next : c ≡ 0 → IsTrue true ↔ E
    nul_is_next is =
        let next = chars_past_char bs rest c utf8 read ∙ ap (λ x. x ∷ chars rest) is in
        (λ _. same.1 (subst (IsEqualUntilNul us) (sym next) (inr (us, refl))), λ _. refl)

    -- and the next unit
    module _ (u : ℕ) (others : List ℕ) (some : us ≡ u ∷ others) (other : c ≢ 0) where
      both : E → IsEqualUntilNul (u ∷ others) (c ∷ chars rest)
      both e = subst (λ xs. IsEqualUntilNul xs (c ∷ chars rest)) some (subst (IsEqualUntilNul us) (chars_past_char bs rest c utf8 read) (same.0 e))

      pub they_differ : u ≢ c → IsTrue false ↔ E
      they_differ differ =
          let next = before_nul-cons c (chars rest) other in
          (λ e. absurd (false≢true e), λ e. absurd (differ ((shorter u c others _ (subst (OneIsPrefixOfOther (u ∷ others)) next (both e))).0)))

      pub they_are_same : u ≡ c → E ↔ IsEqualUntilNul others (chars rest)
      they_are_same is =
          let front = All-cons (λ x. x ≢ 0) c [] other (All-nil (λ x. x ≢ 0)) in (
            λ e. before_begins (c ∷ []) others (chars rest) front (subst (λ x. IsEqualUntilNul (x ∷ others) (c ∷ chars rest)) is (both e)),
            λ equal. same.1 (subst (λ xs. IsEqualUntilNul xs (chars bs)) (sym (some ∙ ap (λ x. x ∷ others) is))
                (subst (IsEqualUntilNul (c ∷ others)) (sym (chars_past_char bs rest c utf8 read)) (begins_after (c ∷ []) others (chars rest) front equal))),
          )

-- where both begin with the same elements, none of them NUL, what follows these decides
pub equal_after_front : (answer : Bool) (front us cs : List ℕ) → All (λ c. c ≢ 0) front → IsTrue answer ↔ IsEqualUntilNul us cs
    → IsTrue answer ↔ IsEqualUntilNul (front ++ us) (front ++ cs)
equal_after_front answer front us cs no_nul rest = (
  λ yes. begins_after front us cs no_nul (rest.0 yes),
  λ equal. rest.1 (before_begins front us cs no_nul equal),
)

-- a text and a Rust text that begin with the same ASCII without NUL are compared by what follows it
pub equal_after_ascii : (answer : Bool) (n : ℕ) (us bs : List ℕ) → take n us ≡ take n bs → All IsAsciiTextByte (take n bs) → IsUtf8 bs
    → IsTrue answer ↔ IsEqualUntilNul (drop n us) (chars (drop n bs)) → IsTrue answer ↔ IsEqualUntilNul us (chars bs)
equal_after_ascii answer n us bs same ascii utf8 rest =
    let front = take n bs in
    let own : front ++ drop n us ≡ us = ap (λ (xs : List ℕ). xs ++ drop n us) (sym same) ∙ take-append-drop n us in
    let others : chars bs ≡ front ++ chars (drop n bs) = ascii_text_then n bs ascii utf8 in
    let no_nul = ascii_text_no_nul front ascii in
    let cs = chars (drop n bs) in (
      λ yes. subst (λ (xs : List ℕ). IsEqualUntilNul xs (chars bs)) own
          (subst (λ (ds : List ℕ). IsEqualUntilNul (front ++ drop n us) ds) (sym others) (begins_after front (drop n us) cs no_nul (rest.0 yes))),
      λ equal. rest.1 (before_begins front (drop n us) cs no_nul
          (subst (λ (ds : List ℕ). IsEqualUntilNul (front ++ drop n us) ds) others (subst (λ (xs : List ℕ). IsEqualUntilNul xs (chars bs)) (sym own) equal))),
    )
