-- What the first units of texts and of patterns show, and what all units show of texts.
use Rattle.std.proofs.Common.{◌≡◌, ◌≢◌, ℕ, suc, ◌+◌, ◌<◌, Bool, true, false, cond, nat_eq, List, [], ◌∷◌, length, slice_index, take, ap, sym, refl, ◌∙◌, arith, subst}
use Rattle.std.proofs.lemmas.Bool.{ne_eqb}
use Rattle.std.proofs.lemmas.Bool.Decides.{nat_tests}
use Rattle.std.specs.Prelude.{not}
use Rattle.std.specs.List.{position_or_len}
use borrow.Author.Tests.{eqb-true, eq-eqb}
use Rattle.uefi_text.specs.Case.{upper, uppers}
use Rattle.uefi_text.specs.PatternLaws.{ItselfAlone, NothingAlone}
use Rattle.uefi_text.specs.Patterns.{Matches, left_bracket, question_mark, star}
use Rattle.uefi_text.specs.Units.{is_nul}
use Rattle.nardcorbel.specs.Strings.{text_until_nul}

-- a text begins with its first unit, or is empty
text_more : (u : ℕ) (us : List ℕ) → u ≢ 0 → text_until_nul (u ∷ us) ≡ u ∷ text_until_nul us
text_more u us some =
    let more : 1 + position_or_len is_nul us ≡ suc (position_or_len is_nul us) = omega arith in
    ap (λ (b : Bool). take (cond (not b) (1 + position_or_len is_nul us) 0) (u ∷ us)) (ne_eqb u 0 some)
    ∙ ap (λ (n : ℕ). take n (u ∷ us)) more

text_none : (u : ℕ) (us : List ℕ) → u ≡ 0 → text_until_nul (u ∷ us) ≡ []
text_none u us none = ap (λ (b : Bool). take (cond (not b) (1 + position_or_len is_nul us) 0) (u ∷ us)) (eq-eqb u 0 none)

-- only a NUL has the upper case of one
upper_nul : (u v : ℕ) → upper u ≡ upper v → nat_eq u 0 ≡ nat_eq v 0
upper_nul u v same = grind (arith, nat_tests)

-- texts whose first units differ without case
pub apart : (us vs : List ℕ) → 0 < length us → 0 < length vs → upper (slice_index us 0) ≢ upper (slice_index vs 0)
    → uppers (text_until_nul us) ≡ uppers (text_until_nul vs) → ⊥
apart [] vs some other differ e = absurd (omega (arith, some))
apart (u ∷ us) [] some other differ e = absurd (omega (arith, other))
apart (u ∷ us) (v ∷ vs) some other differ e = by (nat_eq u 0) (nat_eq v 0) refl refl
  where
    by : (a b : Bool) → nat_eq u 0 ≡ a → nat_eq v 0 ≡ b → ⊥
    by true true p q = differ (ap upper (eqb-true u 0 p) ∙ ap upper (sym (eqb-true v 0 q)))
    by true false p q =
        let none = sym (ap uppers (text_none u us (eqb-true u 0 p))) ∙ e ∙ ap uppers (text_more v vs (λ z. grind (arith, nat_tests, q, z))) in
        absurd (omega (arith, ap length none))
    by false true p q =
        let none = sym (ap uppers (text_more u us (λ z. grind (arith, nat_tests, p, z)))) ∙ e ∙ ap uppers (text_none v vs (eqb-true v 0 q)) in
        absurd (omega (arith, ap length none))
    by false false p q =
        let both : upper u ∷ uppers (text_until_nul us) ≡ upper v ∷ uppers (text_until_nul vs) =
        sym (ap uppers (text_more u us (λ z. grind (arith, nat_tests, p, z)))) ∙ e ∙ ap uppers (text_more v vs (λ z. grind (arith, nat_tests, q, z))) in
        let same : upper u ≡ upper v = cc in
        differ same

-- units that are the same without case have texts that are
pub same_texts : (us vs : List ℕ) → uppers us ≡ uppers vs → uppers (text_until_nul us) ≡ uppers (text_until_nul vs)
same_texts [] [] e = refl
same_texts [] (v ∷ vs) e = absurd (omega (arith, ap length e))
same_texts (u ∷ us) [] e = absurd (omega (arith, ap length e))
same_texts (u ∷ us) (v ∷ vs) e =
    let first : upper u ≡ upper v = cc in
    let others : uppers us ≡ uppers vs = cc in
    by (nat_eq u 0) refl first (same_texts us vs others)
  where
    by : (a : Bool) → nat_eq u 0 ≡ a → upper u ≡ upper v → uppers (text_until_nul us) ≡ uppers (text_until_nul vs)
        → uppers (text_until_nul (u ∷ us)) ≡ uppers (text_until_nul (v ∷ vs))
    by true p first rest =
        ap uppers (text_none u us (eqb-true u 0 p)) ∙ sym (ap uppers (text_none v vs (eqb-true v 0 (sym (upper_nul u v first) ∙ p))))
    by false p first rest =
        let q : nat_eq v 0 ≡ false = sym (upper_nul u v first) ∙ p in
        ap uppers (text_more u us (λ z. grind (arith, nat_tests, p, z)))
        ∙ (λ i. first i ∷ rest i)
        ∙ sym (ap uppers (text_more v vs (λ z. grind (arith, nat_tests, q, z))))

module _ (nothing : NothingAlone) (itself : ItselfAlone) (u c : ℕ) (us cs : List ℕ) (any : c ≢ star) (one : c ≢ question_mark) (set : c ≢ left_bracket)
    (differ : upper u ≢ upper c) where
  -- a pattern that begins with a unit matches a text that begins with it
  begun : (text : List ℕ) → Matches (c ∷ text_until_nul cs) text → text ≡ u ∷ text_until_nul us → ⊥
  begun text m e =
      let found = (itself c (text_until_nul cs) text any one set).0 m in
      let same : upper u ≡ upper c = cc in
      differ same

  empty : (text : List ℕ) → Matches (c ∷ text_until_nul cs) text → text ≡ [] → ⊥
  empty text m e = let found = (itself c (text_until_nul cs) text any one set).0 m in absurd (omega (arith, ap length e, ap length found.2))

  none_match : Matches (text_until_nul (c ∷ cs)) (text_until_nul (u ∷ us)) → ⊥
  none_match m = by (nat_eq c 0) (nat_eq u 0) refl refl
    where
      by : (a b : Bool) → nat_eq c 0 ≡ a → nat_eq u 0 ≡ b → ⊥
      by true true e f = differ (ap upper (eqb-true u 0 f) ∙ ap upper (sym (eqb-true c 0 e)))
      by true false e f =
          let left : text_until_nul (u ∷ us) ≡ [] =
          (nothing (text_until_nul (u ∷ us))).0 (subst (λ (p : List ℕ). Matches p (text_until_nul (u ∷ us))) (text_none c cs (eqb-true c 0 e)) m) in
          absurd (omega (arith, ap length left, ap length (text_more u us (λ z. grind (arith, nat_tests, f, z)))))
      by false true e f =
          empty (text_until_nul (u ∷ us)) (subst (λ (p : List ℕ). Matches p (text_until_nul (u ∷ us))) (text_more c cs (λ z. grind (arith, nat_tests, e, z))) m)
          (text_none u us (eqb-true u 0 f))
      by false false e f =
          begun (text_until_nul (u ∷ us)) (subst (λ (p : List ℕ). Matches p (text_until_nul (u ∷ us))) (text_more c cs (λ z. grind (arith, nat_tests, e, z))) m)
          (text_more u us (λ z. grind (arith, nat_tests, f, z)))

pub no_match : NothingAlone → ItselfAlone → (units pattern : List ℕ) → 0 < length units → 0 < length pattern
    → slice_index pattern 0 ≢ star → slice_index pattern 0 ≢ question_mark → slice_index pattern 0 ≢ left_bracket
    → upper (slice_index units 0) ≢ upper (slice_index pattern 0) → Matches (text_until_nul pattern) (text_until_nul units) → ⊥
no_match nothing itself [] pattern some other any one set differ m = absurd (omega (arith, some))
no_match nothing itself (u ∷ us) [] some other any one set differ m = absurd (omega (arith, other))
no_match nothing itself (u ∷ us) (c ∷ cs) some other any one set differ m = none_match nothing itself u c us cs any one set differ m
