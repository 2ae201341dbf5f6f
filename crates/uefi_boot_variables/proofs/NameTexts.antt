-- Texts of names determine them.
use Rattle.std.proofs.Common.{◌≡◌, ℕ, ◌+◌, ◌*◌, ◌/◌, ◌%◌, ◌<◌, Bool, ◌&&◌, true, ◌↔◌, ◌∙◌, ap, sym, refl, List, [], ◌∷◌, ◌++◌, length, map, take, drop, get_or, Some, ltb, arith}
use Rattle.std.proofs.lemmas.Bool.Decides.{nat_tests}
use Rattle.std.proofs.lemmas.List.{length-append, map-append, take-append-drop}
use Rattle.std.proofs.lemmas.List.FromFn.{fill_by_all}
use Rattle.std.proofs.lemmas.List.Elements.{All-append, All-cons, All-nil}
use Rattle.std.proofs.lemmas.Str.{encode_ascii}
use Rattle.std.specs.List.{list_all}
use Rattle.std.specs.Prelude.{encode_utf8}
use Rattle.uefi_text.specs.Units.{IsText, IsTextUnit}
use Rattle.uefi_boot_variables.specs.Names.{name_digit, four_digits, name_text, word_of}
use Rattle.uefi_boot_variables.specs.declared.variable_names.LoadOptionKind.{LoadOptionKind}
use Rattle.uefi_boot_variables.specs.declared.variable_names.LoadOptionKind.TheVariants.{Boot, Driver, SysPrep, PlatformRecovery}
use Rattle.uefi_boot_variables.specs.declared.variable_names.LoadOptionName.{LoadOptionName}

-- each kind has a word of its own
pub word_once : (a b : LoadOptionKind) → word_of a ≡ word_of b → a ≡ b
word_once Boot Boot e = refl
word_once Boot Driver e = cc
word_once Boot SysPrep e = cc
word_once Boot PlatformRecovery e = cc
word_once Driver Boot e = cc
word_once Driver Driver e = refl
word_once Driver SysPrep e = cc
word_once Driver PlatformRecovery e = cc
word_once SysPrep Boot e = cc
word_once SysPrep Driver e = cc
word_once SysPrep SysPrep e = refl
word_once SysPrep PlatformRecovery e = cc
word_once PlatformRecovery Boot e = cc
word_once PlatformRecovery Driver e = cc
word_once PlatformRecovery SysPrep e = cc
word_once PlatformRecovery PlatformRecovery e = refl

-- digits of numbers below 16 determine them
pub digit_once : (a b : ℕ) → a < 16 → b < 16 → name_digit a ≡ name_digit b → a ≡ b
digit_once a b a_low b_low e = grind (arith, nat_tests)

-- a list of four
four_of : (xs : List ℕ) → length xs ≡ 4 → xs ≡ get_or xs 0 0 ∷ get_or xs 1 0 ∷ get_or xs 2 0 ∷ get_or xs 3 0 ∷ []
four_of xs long = fill_by_all (λ k. get_or xs k 0) xs 4 0 long (λ k less. refl)

-- the digits of a number that is put together of four
four_digits_of : (a b c d : ℕ) → a < 16 → b < 16 → c < 16 → d < 16
    → four_digits (((a * 16 + b) * 16 + c) * 16 + d) ≡ name_digit a ∷ name_digit b ∷ name_digit c ∷ name_digit d ∷ []
four_digits_of a b c d la lb lc ld =
    let n = ((a * 16 + b) * 16 + c) * 16 + d in
    let ea : n / 4096 ≡ a = omega arith in
    let eb : n / 256 % 16 ≡ b = omega arith in
    let ec : n / 16 % 16 ≡ c = omega arith in
    let ed : n % 16 ≡ d = omega arith in
    rw (ea, eb, ec, ed) refl

-- four digits determine their number
pub four_digits_once : (m n : ℕ) → m < 65536 → n < 65536 → four_digits m ≡ four_digits n → m ≡ n
four_digits_once m n lm ln e =
    let ea : name_digit (m / 4096) ≡ name_digit (n / 4096) = cc in
    let eb : name_digit (m / 256 % 16) ≡ name_digit (n / 256 % 16) = cc in
    let ec : name_digit (m / 16 % 16) ≡ name_digit (n / 16 % 16) = cc in
    let ed : name_digit (m % 16) ≡ name_digit (n % 16) = cc in
    let a = digit_once (m / 4096) (n / 4096) (omega arith) (omega arith) ea in
    let b = digit_once (m / 256 % 16) (n / 256 % 16) (omega arith) (omega arith) eb in
    let c = digit_once (m / 16 % 16) (n / 16 % 16) (omega arith) (omega arith) ec in
    let d = digit_once (m % 16) (n % 16) (omega arith) (omega arith) ed in
    omega arith

-- digits that were read are those of one number
pub digits_found : (text : List ℕ) (a b c d : ℕ) → length text ≡ 4 → a < 16 → b < 16 → c < 16 → d < 16
    → get_or text 0 0 ≡ name_digit a → get_or text 1 0 ≡ name_digit b → get_or text 2 0 ≡ name_digit c → get_or text 3 0 ≡ name_digit d
    → (number : ℕ) → number < 65536
    → (Some (((a * 16 + b) * 16 + c) * 16 + d) ≡ Some number) ↔ (text ≡ four_digits number)
digits_found text a b c d long la lb lc ld ea eb ec ed number small =
    let n = ((a * 16 + b) * 16 + c) * 16 + d in
    let is : text ≡ four_digits n = four_of text long ∙ rw (ea, eb, ec, ed) (sym (four_digits_of a b c d la lb lc ld)) in
    let n_small : n < 65536 = omega arith in (
      λ e. let same : n ≡ number = cc in is ∙ ap four_digits same,
      λ e. ap Some (four_digits_once n number n_small small (sym is ∙ e)),
    )

-- lists that are the same joined, and whose second parts are as long as one another
append_once : (a b c d : List ℕ) → length b ≡ length d → a ++ b ≡ c ++ d → (a ≡ c) × (b ≡ d)
append_once [] b [] d long e = (refl, e)
append_once [] b (y ∷ c) d long e = absurd (omega (arith, ap length e, length-append c d))
append_once (x ∷ a) b [] d long e = absurd (omega (arith, ap length e, length-append a b))
append_once (x ∷ a) b (y ∷ c) d long e =
    let rest : a ++ b ≡ c ++ d = cc in
    let both = append_once a b c d long rest in
    let first : x ≡ y = cc in
    let others : a ≡ c = both.0 in
    (cc, both.1)

-- units in two parts
pub map_split : {X : Type 0} (f : X → ℕ) (units word digits : List X) (n : ℕ) → word ≡ take n units → digits ≡ drop n units
    → map f units ≡ map f word ++ map f digits
map_split f units word digits n front back =
    rw (front, back) (ap (map f) (sym (take-append-drop n units)) ∙ map-append f (take n units) (drop n units))

-- a word and digits that were read are those of one name
pub name_found : (text word digits : List ℕ) (kind : LoadOptionKind) (number : ℕ) → text ≡ word ++ digits
    → length digits ≡ 4 → word ≡ word_of kind → digits ≡ four_digits number → number < 65536
    → (name : LoadOptionName) → name.number < 65536
    → (Some (let it : LoadOptionName = record { kind = kind; number = number } in it) ≡ Some name) ↔ (text ≡ name_text name)
name_found text word digits kind number is long is_word are_digits small name name_small = (
  λ e.
      let same_kind : kind ≡ name.kind = cc in
      let same_number : number ≡ name.number = cc in
      is ∙ rw (is_word, are_digits, same_kind, same_number) refl,
  λ e.
      let both = append_once word digits (word_of name.kind) (four_digits name.number) long (sym is ∙ e) in
      let same_kind = word_once kind name.kind (sym is_word ∙ both.0) in
      let same_number = four_digits_once number name.number small name_small (sym are_digits ∙ both.1) in
      rw (same_kind, same_number) refl,
)

-- a text whose last four units are no digits is no name
pub no_name : (text word digits : List ℕ) → text ≡ word ++ digits → length digits ≡ 4
    → ((number : ℕ) → number < 65536 → digits ≡ four_digits number → ⊥)
    → (name : LoadOptionName) → name.number < 65536 → text ≡ name_text name → ⊥
no_name text word digits is long none name small e =
    none name.number small (append_once word digits (word_of name.kind) (four_digits name.number) long (sym is ∙ e)).1

-- a test for a unit of a text, below the surrogates
abbrev is_plain : ℕ → Bool
is_plain unit = ltb 0 unit && ltb unit 128

-- units that pass are a text
plain_text : (text : List ℕ) → list_all is_plain text ≡ true → IsText text
plain_text [] e = All-nil IsTextUnit
plain_text (x ∷ xs) e =
    let first : (0 < x) × (x < 128) = grind (arith, nat_tests) in
    let others : list_all is_plain xs ≡ true = grind (arith, nat_tests) in
    All-cons IsTextUnit x xs (first.0, (omega arith, λ high. absurd (omega arith))) (plain_text xs others)

-- the digit of a number below 16 is of ASCII
pub digit_plain : (n : ℕ) → n < 16 → (0 < name_digit n) × (name_digit n < 128)
digit_plain n low = grind (arith, nat_tests)

digit_text : (n : ℕ) → n < 16 → IsTextUnit (name_digit n)
digit_text n low = let p = digit_plain n low in (p.0, (omega arith, λ high. absurd (omega arith)))

word_text : (kind : LoadOptionKind) → IsText (word_of kind)
word_text Boot = plain_text (word_of Boot) refl
word_text Driver = plain_text (word_of Driver) refl
word_text SysPrep = plain_text (word_of SysPrep) refl
word_text PlatformRecovery = plain_text (word_of PlatformRecovery) refl

-- a name is a text: neither a NUL nor a surrogate is in it
pub names_are_texts : (name : LoadOptionName) → name.number < 65536 → IsText (name_text name)
names_are_texts name small =
    let n = name.number in
    let a = name_digit (n / 4096) in
    let b = name_digit (n / 256 % 16) in
    let c = name_digit (n / 16 % 16) in
    let d = name_digit (n % 16) in
    All-append IsTextUnit (word_of name.kind) (four_digits n) (word_text name.kind)
    (All-cons IsTextUnit a (b ∷ c ∷ d ∷ []) (digit_text (n / 4096) (omega arith))
    (All-cons IsTextUnit b (c ∷ d ∷ []) (digit_text (n / 256 % 16) (omega arith))
    (All-cons IsTextUnit c (d ∷ []) (digit_text (n / 16 % 16) (omega arith))
    (All-cons IsTextUnit d [] (digit_text (n % 16) (omega arith)) (All-nil IsTextUnit)))))

-- the digits of a number as they are printed
pub printed_digits : (n a b c d : ℕ) (digits : List ℕ) → n < 65536 → digits ≡ four_digits n
    → a ≡ get_or digits 0 0 → b ≡ get_or digits 1 0 → c ≡ get_or digits 2 0 → d ≡ get_or digits 3 0
    → encode_utf8 a ++ (encode_utf8 b ++ (encode_utf8 c ++ encode_utf8 d)) ≡ four_digits n
printed_digits n a b c d digits small is ea eb ec ed =
    let pa = digit_plain (n / 4096) (omega arith) in
    let pb = digit_plain (n / 256 % 16) (omega arith) in
    let pc = digit_plain (n / 16 % 16) (omega arith) in
    let pd = digit_plain (n % 16) (omega arith) in
    rw (
      ea,
      eb,
      ec,
      ed,
      is,
      encode_ascii (name_digit (n / 4096)) pa.1,
      encode_ascii (name_digit (n / 256 % 16)) pb.1,
      encode_ascii (name_digit (n / 16 % 16)) pc.1,
      encode_ascii (name_digit (n % 16)) pd.1,
    ) refl

abbrev made : LoadOptionKind → ℕ → LoadOptionName
made kind number = record { kind = kind; number = number }

-- names with one text are the same
pub names_once : (a b : LoadOptionName) → a.number < 65536 → b.number < 65536 → name_text a ≡ name_text b → a ≡ b
names_once a b a_small b_small e =
    let both = append_once (word_of a.kind) (four_digits a.number) (word_of b.kind) (four_digits b.number) refl e in
    let same_kind = word_once a.kind b.kind both.0 in
    let same_number = four_digits_once a.number b.number a_small b_small both.1 in
    ap (λ (kind : LoadOptionKind). made kind a.number) same_kind ∙ ap (made b.kind) same_number
