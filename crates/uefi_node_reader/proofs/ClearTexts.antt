-- Texts of printable ASCII are printed as they lie, and are read up to the byte that stops them.
use Rattle.std.proofs.Common.{◌≡◌, ℕ, ◌+◌, ◌-◌, ◌/◌, ◌%◌, ◌<◌, ◌≤◌, Bool, true, false, cond, leb, ltb, not, ◌&&◌, List, [], ◌∷◌, ◌++◌, length, take, drop, refl, ap, sym, subst, ◌∙◌, arith}
use Rattle.std.proofs.lemmas.Bool.{and_from, and_parts}
use Rattle.std.specs.Prelude.{All}
use Rattle.std.specs.Char.Escape.{encode_utf16}
use Rattle.std.specs.Char.Utf16.{utf16_lossy_chars}
use Rattle.std.specs.List.{flat_map, list_all, position_or_len}
use Rattle.std.specs.Str.{all_scalars}
use Rattle.std.proofs.lemmas.Bool.Decides.{nat_tests}
use Rattle.std.proofs.lemmas.List.{append-nil, drop_at, length-append, take_all, take_at}
use Rattle.std.proofs.lemmas.List.Elements.{All-nil, All-cons}
use Rattle.std.proofs.lemmas.Str.{encode_ascii}
use borrow.Author.Tests.{eq-eqb, leb-true, lt-ltb, ltb-true}
use lib.Utf8.{low_scalar}
use Rattle.uefi_text.proofs.UnitBytes.{units_of_bytes-unit_bytes}
use Rattle.uefi_text.specs.Packed.{IsByte}
use Rattle.uefi_text.specs.UnitBytes.{unit_bytes}
use Rattle.uefi_text.specs.Units.{is_nul}
use Rattle.uefi_device_nodes.specs.FieldTexts.{is_escaped, shown_byte, shown_bytes, shown_char, shown_units, until_nul, utf16_text}
use Rattle.uefi_node_reader.specs.FieldReading.{clear_run, is_clear}
use Rattle.uefi_node_reader.proofs.NamedFiles.{lossy_back, no_nul, place_of, until_back}

-- what is known of such a byte
record Clear (c : ℕ) : Type 0 where
  pub low : leb 0x20 c ≡ true
  pub high : ltb c 0x7f ≡ true
  pub least : 32 ≤ c
  pub most : c < 127

clear : (stop c : ℕ) → is_clear stop c ≡ true → Clear c
clear stop c e =
    let parts = and_parts (leb 0x20 c && ltb c 0x7f) _ e in
    let ends = and_parts (leb 0x20 c) (ltb c 0x7f) parts.0 in
    record { low = ends.0; high = ends.1; least = leb-true _ _ ends.0; most = ltb-true _ _ ends.1 }

and_false : (a : Bool) → a && false ≡ false
and_false true = refl
and_false false = refl

stops : (stop : ℕ) → is_clear stop stop ≡ false
stops stop = ap (λ (t : Bool). (leb 0x20 stop && ltb stop 0x7f) && not t) (eq-eqb stop stop refl) ∙ and_false (leb 0x20 stop && ltb stop 0x7f)

-- a text is read up to the byte that stops it
pub clear_again : (stop : ℕ) (bytes rest : List ℕ) → list_all (is_clear stop) bytes ≡ true
    → clear_run stop (bytes ++ stop ∷ rest) ≡ (bytes, stop ∷ rest)
clear_again stop [] rest e =
    let found : List ℕ × List ℕ = (stop ∷ (clear_run stop rest).0, (clear_run stop rest).1) in
    let left : List ℕ × List ℕ = ([], stop ∷ rest) in
    ap (λ (t : Bool). cond t found left) (stops stop)
clear_again stop (b ∷ bs) rest e =
    let parts = and_parts (is_clear stop b) (list_all (is_clear stop) bs) e in
    let others = clear_again stop bs rest parts.1 in
    let run : List ℕ × List ℕ = clear_run stop (bs ++ stop ∷ rest) in
    let found : List ℕ × List ℕ = (b ∷ run.0, run.1) in
    let left : List ℕ × List ℕ = ([], b ∷ (bs ++ stop ∷ rest)) in
    ap (λ (t : Bool). cond t found left) parts.0 ∙ (λ i. (b ∷ (others i).0, (others i).1))

pub clear_takes : (stop : ℕ) (text : List ℕ)
    → (text ≡ (clear_run stop text).0 ++ (clear_run stop text).1) × (list_all (is_clear stop) (clear_run stop text).0 ≡ true)
clear_takes stop [] = (refl, refl)
clear_takes stop (c ∷ cs) = by (is_clear stop c) refl (clear_takes stop cs)
  where
    run : List ℕ × List ℕ
    run = clear_run stop cs

    Is : List ℕ × List ℕ → Type 0
    Is r = (c ∷ cs ≡ r.0 ++ r.1) × (list_all (is_clear stop) r.0 ≡ true)

    at : (t : Bool) → is_clear stop c ≡ t → (cs ≡ run.0 ++ run.1) × (list_all (is_clear stop) run.0 ≡ true) → Is (cond t (c ∷ run.0, run.1) ([], c ∷ cs))
    at true p h = (ap (λ (x : List ℕ). c ∷ x) h.0, and_from _ _ p h.1)
    at false p h = (refl, refl)

    by : (t : Bool) → is_clear stop c ≡ t → (cs ≡ run.0 ++ run.1) × (list_all (is_clear stop) run.0 ≡ true)
        → Is (cond (is_clear stop c) (c ∷ run.0, run.1) ([], c ∷ cs))
    by t p h = subst (λ (x : Bool). Is (cond x (c ∷ run.0, run.1) ([], c ∷ cs))) (sym p) (at t p h)

-- the part before what is left
pub run_front : (stop : ℕ) (text : List ℕ) → let run : List ℕ × List ℕ = clear_run stop text in
    (length run.1 ≤ length text) × (take (length text - length run.1) text ≡ run.0) × (drop (length text - length run.1) text ≡ run.1)
run_front stop text =
    let run : List ℕ × List ℕ = clear_run stop text in
    let is : text ≡ run.0 ++ run.1 = (clear_takes stop text).0 in
    let size : length text ≡ length run.0 + length run.1 = ap length is ∙ length-append run.0 run.1 in
    let before : length text - length run.1 ≡ length run.0 = omega (arith, size) in (
      omega (arith, size),
      (λ i. take (before i) (is i)) ∙ take_at run.0 run.1 (length run.0) refl,
      (λ i. drop (before i) (is i)) ∙ drop_at run.0 run.1 (length run.0) refl,
    )

-- such a text prints as it lies, one byte each
byte_clear : (stop c : ℕ) → is_clear stop c ≡ true → shown_byte c ≡ c ∷ []
unfolding shown_byte
byte_clear stop c e = let is = clear stop c e in rw is.low (rw is.high (encode_ascii c (omega (arith, is.most))))

pub shown_clear : (stop : ℕ) (bytes : List ℕ) → list_all (is_clear stop) bytes ≡ true → shown_bytes bytes ≡ bytes
unfolding shown_bytes
shown_clear stop [] e = refl
shown_clear stop (b ∷ bs) e =
    let parts = and_parts (is_clear stop b) (list_all (is_clear stop) bs) e in
    (λ i. byte_clear stop b parts.0 i ++ shown_clear stop bs parts.1 i)

pub clear_bytes : (stop : ℕ) (bytes : List ℕ) → list_all (is_clear stop) bytes ≡ true → All IsByte bytes
clear_bytes stop [] e = All-nil IsByte
clear_bytes stop (b ∷ bs) e =
    let parts = and_parts (is_clear stop b) (list_all (is_clear stop) bs) e in
    All-cons IsByte b bs (omega (arith, (clear stop b parts.0).most)) (clear_bytes stop bs parts.1)

-- and two bytes each
pub clear_units : (stop : ℕ) (text : List ℕ) → list_all (is_clear stop) text ≡ true → All IsByte (unit_bytes text)
clear_units stop [] e = All-nil IsByte
clear_units stop (c ∷ cs) e =
    let parts = and_parts (is_clear stop c) (list_all (is_clear stop) cs) e in
    let small : c / 256 < 256 = omega (arith, (clear stop c parts.0).most) in
    All-cons IsByte (c % 256) (c / 256 ∷ unit_bytes cs) (omega arith) (All-cons IsByte (c / 256) (unit_bytes cs) small (clear_units stop cs parts.1))

-- what is known of such a text as units
record ClearUnits (text : List ℕ) : Type 0 where
  pub no_nul : no_nul text ≡ true
  pub scalars : all_scalars text ≡ true
  pub units : flat_map encode_utf16 text ≡ text
  pub shown : flat_map shown_char text ≡ text

char_clear : (stop c : ℕ) → is_clear stop c ≡ true → shown_char c ≡ c ∷ []
unfolding shown_char
char_clear stop c e =
    let is = clear stop c e in
    let shown : is_escaped c ≡ false = grind (arith, nat_tests, is.least, is.most) in
    rw shown (encode_ascii c (omega (arith, is.most)))

unit_clear : (stop c : ℕ) → is_clear stop c ≡ true → encode_utf16 c ≡ c ∷ []
unit_clear stop c e = let is = clear stop c e in rw (lt-ltb c 0x1_0000 (omega (arith, is.most))) refl

no_zero : (stop c : ℕ) → is_clear stop c ≡ true → not (is_nul c) ≡ true
no_zero stop c e = let is = clear stop c e in grind (arith, nat_tests, is.least)

clear_text : (stop : ℕ) (text : List ℕ) → list_all (is_clear stop) text ≡ true → ClearUnits text
clear_text stop [] e = record { no_nul = refl; scalars = refl; units = refl; shown = refl }
clear_text stop (c ∷ cs) e =
    let parts = and_parts (is_clear stop c) (list_all (is_clear stop) cs) e in
    let others = clear_text stop cs parts.1 in
    let is = clear stop c parts.0 in
    record {
      no_nul = and_from _ _ (no_zero stop c parts.0) others.no_nul;
      scalars = and_from _ _ (low_scalar c (omega (arith, is.most))) others.scalars;
      units = λ i. unit_clear stop c parts.0 i ++ others.units i;
      shown = λ i. char_clear stop c parts.0 i ++ others.shown i;
    }

pub clear_no_nul : (stop : ℕ) (text : List ℕ) → list_all (is_clear stop) text ≡ true → no_nul text ≡ true
clear_no_nul stop text e = (clear_text stop text e).no_nul

-- a text without a NUL goes on to its end
whole : (text : List ℕ) → no_nul text ≡ true → until_nul text ≡ text
whole text e =
    let place : position_or_len is_nul text ≡ length text = ap (λ (x : List ℕ). position_or_len is_nul x) (sym (append-nil text)) ∙ place_of is_nul text [] e refl in
    ap (λ (n : ℕ). take n text) place ∙ take_all (length text) text (omega arith)

pub utf16_clear : (stop : ℕ) (text : List ℕ) → list_all (is_clear stop) text ≡ true → utf16_text (unit_bytes text) ≡ text
unfolding utf16_text shown_units
utf16_clear stop text e =
    let is = clear_text stop text e in
    ap (λ (x : List ℕ). flat_map shown_char (utf16_lossy_chars (until_nul x))) (units_of_bytes-unit_bytes text)
    ∙ ap (λ (x : List ℕ). flat_map shown_char (utf16_lossy_chars x)) (whole text is.no_nul ∙ sym is.units)
    ∙ ap (λ (x : List ℕ). flat_map shown_char x) (lossy_back text is.scalars) ∙ is.shown

-- such a text is printed up to the NUL that ends it
pub name_clear : (stop : ℕ) (text : List ℕ) → list_all (is_clear stop) text ≡ true → shown_bytes (until_nul (text ++ 0 ∷ [])) ≡ text
name_clear stop text e =
    ap shown_bytes (until_back text (clear_text stop text e).no_nul) ∙ shown_clear stop text e
