-- A name is one of a file exactly where it is not refused.
use Rattle.std.proofs.Common.{◌≡◌, ◌≢◌, ◌≤◌, ◌↔◌, ℕ, inl, inr, false, if◌then◌else◌, List, [], ◌∷◌, All, None, Some, Option, Result, Ok, Err, IsOk, arith, length, ap, sym, refl, subst, ◌∙◌}
use Rattle.std.specs.Prelude.{nat_lt}
use Rattle.std.specs.List.{find}
use Rattle.std.specs.Option.{option_map}
use Rattle.std.specs.Result.{result_err}
use Rattle.std.proofs.lemmas.Bool.{cases_Bool, cond-false, cond-true, false≢true}
use Rattle.std.proofs.lemmas.Bool.Decides.{nat_tests}
use Rattle.std.proofs.lemmas.List.{length-map}
use Rattle.std.proofs.lemmas.List.Elements.{All-cons, All-head, All-map, All-nil, All-tail, All-weaker}
use Rattle.uefi_text.proofs.Finding.{All-found_none, found_none, unmapped}
use Rattle.uefi_text.specs.Case.{upper, uppers}
use Rattle.uefi_fat.specs.LongNames.{IsFatName, is_illegal, name_refusal, trimmed_refusal}
use Rattle.uefi_fat.specs.Trimming.{trimmed}
use Rattle.uefi_fat.specs.declared.long_names.FatNameError.{FatNameError}
use Rattle.uefi_fat.specs.declared.long_names.FatNameError.TheVariants.{IllegalChar, TooLong}

-- the test of the length comes first
no_test : (n : ℕ) (others : Option FatNameError) → (if nat_lt 255 n then Some TooLong else others) ≡ None
    → (n ≤ 255) × (others ≡ None)
no_test n others e =
    elim (cases_Bool (nat_lt 255 n)) [
      | inl long ↦ let found : (if nat_lt 255 n then Some TooLong else others) ≡ Some TooLong =
          cond-true (nat_lt 255 n) (Some TooLong) others long in absurd (cc)
      | inr short ↦ (grind (arith, nat_tests), sym (cond-false (nat_lt 255 n) (Some TooLong) others short) ∙ e)
    ]

both_tests : (n : ℕ) (others : Option FatNameError) → n ≤ 255 → others ≡ None
    → (if nat_lt 255 n then Some TooLong else others) ≡ None
both_tests n others short none =
    let fails : nat_lt 255 n ≡ false = grind (arith, nat_tests) in
    cond-false (nat_lt 255 n) (Some TooLong) others fails ∙ none

unrefused : (part : List ℕ) → trimmed_refusal part ≡ None
    → (part ≢ []) × (length part ≤ 255) × All (λ u. is_illegal u ≡ false) part
unrefused [] e = absurd (cc)
unrefused (u ∷ us) e =
    let tests = no_test (length (u ∷ us)) (option_map IllegalChar (find is_illegal (u ∷ us))) e in
    (λ same. cc, tests.0, All-found_none is_illegal (u ∷ us) (unmapped IllegalChar (find is_illegal (u ∷ us)) tests.1))

accepted : (part : List ℕ) → part ≢ [] → length part ≤ 255 → All (λ u. is_illegal u ≡ false) part
    → trimmed_refusal part ≡ None
accepted [] some short legal = absurd (some refl)
accepted (u ∷ us) some short legal =
    both_tests (length (u ∷ us)) _ short (ap (option_map IllegalChar) (found_none is_illegal (u ∷ us) legal))

pub fat_where_unrefused : (name : List ℕ) → (name_refusal name ≡ None) ↔ IsFatName name
fat_where_unrefused name = (
  λ e. let facts = unrefused (trimmed name) e in
      record { not_empty = facts.0; within = facts.1; none_illegal = facts.2 },
  λ fat. accepted (trimmed name) fat.not_empty fat.within fat.none_illegal,
)

-- of a result that says why a name is refused
pub fat_where_ok : {T : Type 0} (answer : Result T FatNameError) (name : List ℕ) → result_err answer ≡ name_refusal name
    → IsOk answer ↔ IsFatName name
fat_where_ok (Ok value) name e = (λ ok. (fat_where_unrefused name).0 (sym e), λ fat. refl)
fat_where_ok (Err error) name e = (
  λ ok. absurd (false≢true ok),
  λ fat. let none = (fat_where_unrefused name).1 fat in absurd (cc),
)

-- the case of a unit says nothing of whether it is illegal
upper-illegal : (u : ℕ) → is_illegal (upper u) ≡ is_illegal u
upper-illegal u = grind (arith, nat_tests)

some-uppers : (us : List ℕ) → us ≢ [] → uppers us ≢ []
some-uppers [] some = absurd (some refl)
some-uppers (u ∷ us) some = λ e. cc

legal-uppers : (us : List ℕ) → All (λ u. is_illegal u ≡ false) us → All (λ u. is_illegal u ≡ false) (uppers us)
legal-uppers us all =
    All-map (λ u. is_illegal u ≡ false) upper us
    (All-weaker (λ u. is_illegal u ≡ false) (λ u. is_illegal (upper u) ≡ false) (λ u legal. upper-illegal u ∙ legal) us all)

uppers-legal : (us : List ℕ) → All (λ u. is_illegal u ≡ false) (uppers us) → All (λ u. is_illegal u ≡ false) us
uppers-legal [] all = All-nil (λ u. is_illegal u ≡ false)
uppers-legal (u ∷ us) all =
    All-cons (λ v. is_illegal v ≡ false) u us
    (sym (upper-illegal u) ∙ All-head (λ v. is_illegal v ≡ false) (upper u) (uppers us) all)
    (uppers-legal us (All-tail (λ v. is_illegal v ≡ false) (upper u) (uppers us) all))

pub fat_of_one_file : (name other : List ℕ) → uppers (trimmed name) ≡ uppers (trimmed other) → IsFatName name → IsFatName other
fat_of_one_file name other same fat = record {
  not_empty = λ e. some-uppers (trimmed name) fat.not_empty (same ∙ ap uppers e);
  within =
      omega (arith, fat.within, ap length same, length-map (trimmed name) upper, length-map (trimmed other) upper);
  none_illegal =
      uppers-legal (trimmed other)
      (subst (All (λ u. is_illegal u ≡ false)) same (legal-uppers (trimmed name) fat.none_illegal));
}
