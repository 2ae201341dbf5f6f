-- The texts of fields are read back, and what is read is printed so.
use Rattle.std.proofs.Common.{◌≡◌, true≢false, ℕ, zero, suc, ◌+◌, ◌-◌, ◌*◌, ◌/◌, ◌%◌, ◌^◌, ◌<◌, ◌≤◌, Bool, true, false, cond, eqb, leb, ltb, ◌&&◌, List, [], ◌∷◌, ◌++◌, codes, length, reverse, refl, ap, sym, subst, ◌∙◌, append_assoc, arith}
use Rattle.std.proofs.lemmas.Bool.{le-leb, not-true}
use Rattle.std.specs.Prelude.{All, Option, Some, None}
use Rattle.std.specs.Fmt.{digits, digit_glyph}
use Rattle.std.specs.List.{flat_map, join_by}
use Rattle.std.proofs.lemmas.List.Elements.{All-nil, All-cons, All-from_get_or, All-get_or, All-head, All-tail}
use native.Mathlib.Nat.{pow-suc, pow-zero}
use borrow.Author.Tests.{eq-eqb, eqb-true, ne_eqb, leb-true, lt-ltb, ltb-false, ltb-true}
use Rattle.uefi_text.specs.Packed.{IsByte, little_endian}
use Rattle.uefi_device_nodes.specs.FieldTexts.{dashed_back, eisa_bits, eisa_letter, eisa_text, hex_back, hex_four, hex_bytes, hex_two}
use Rattle.uefi_node_reader.specs.Numerals.{digit_of, has_digit, number_read}
use Rattle.uefi_node_reader.specs.TableReading.{ends_field, goes_on}
use Rattle.uefi_node_reader.specs.FieldReading.{◌>>=◌, byte_read, more_read, bytes_read, default_read, digits_of_id, eisa_read, letter_of, letters_read, less_one, low_bytes, as_bytes, next_read, or_default, some_id, turned, field_kept, field_read, IsValue}
use Rattle.uefi_node_reader.specs.WordReading.{after, are_sound, or_word, word_number, word_read}
use Rattle.uefi_device_nodes.specs.Fields.{default_text, field_text, fits_shape}
use Rattle.uefi_device_nodes.specs.Words.{word_text, words_of}
use Rattle.uefi_device_nodes.specs.declared.node_table.rows.Shape.{Shape}
use Rattle.uefi_device_nodes.specs.declared.node_table.rows.Shape.TheVariants.{Hexadecimal, Decimal, OrDefault, Back, Forth, Dashed, Next, Eisa, Word}
use Rattle.uefi_device_nodes.specs.declared.node_table.words.Words.{Words}
use Rattle.uefi_device_nodes.specs.declared.node_table.words.Words.TheVariants.{Parity, StopBits, Digests, Login, Protocol}
use Rattle.std.proofs.lemmas.Str.{encode_ascii}
use Rattle.std.specs.Prelude.{encode_utf8, nat_le, not, ◌≢◌}
use Rattle.std.proofs.lemmas.List.{get_or-reverse, length-reverse, reverse-reverse}
use Rattle.std.proofs.Math.Nat.{pow-le-pow_right}
use Rattle.uefi_device_nodes.proofs.GuidTexts.{two_digits}
use Rattle.uefi_node_reader.proofs.Literals.{after_again, after_some, after_takes, bind_some}
use Rattle.uefi_node_reader.proofs.WordLaws.{word_again, word_takes}
use Rattle.uefi_node_reader.proofs.Digits.{IsBase, decimal_base, hexadecimal, number_again, number_takes, some_pair}

byte_again : (byte : ℕ) (rest : List ℕ) → byte < 256 → byte_read (hex_two byte ++ rest) ≡ Some (byte, rest)
byte_again byte rest h =
    let found : ℕ → Option (ℕ × List ℕ) = λ n. Some (n, rest) in
    let a = hexadecimal.reads (byte / 16) (omega arith) in
    let b = hexadecimal.reads (byte % 16) (omega arith) in
    let whole : byte / 16 * 16 + byte % 16 ≡ byte = omega arith in
    ap (λ (x : List ℕ). byte_read (x ++ rest)) (two_digits byte h)
    ∙ (λ i. cond (ltb (a i) 16 && ltb (b i) 16) (found (a i * 16 + b i)) None)
    ∙ (λ i. cond (lt-ltb (byte / 16) 16 (omega arith) i && lt-ltb (byte % 16) 16 (omega arith) i) (found (whole i)) None)

byte_takes : (text : List ℕ) (byte : ℕ) (rest : List ℕ) → byte_read text ≡ Some (byte, rest) → (text ≡ hex_two byte ++ rest) × (byte < 256)
byte_takes [] byte rest e = cc
byte_takes (a ∷ []) byte rest e = cc
byte_takes (a ∷ b ∷ text) byte rest e = by (ltb (digit_of a) 16) (ltb (digit_of b) 16) refl refl e
  where
    found : Option (ℕ × List ℕ)
    found = Some (digit_of a * 16 + digit_of b, text)

    by : (t s : Bool) → ltb (digit_of a) 16 ≡ t → ltb (digit_of b) 16 ≡ s → cond (t && s) found None ≡ Some (byte, rest)
        → (a ∷ b ∷ text ≡ hex_two byte ++ rest) × (byte < 256)
    by false s p q e = cc
    by true false p q e = cc
    by true true p q e =
        let low = ltb-true _ _ p in
        let high = ltb-true _ _ q in
        let same = some_pair (digit_of a * 16 + digit_of b, text) (byte, rest) e in
        let small : byte < 256 = omega (arith, same.0) in
        let first : byte / 16 ≡ digit_of a = omega (arith, same.0) in
        let second : byte % 16 ≡ digit_of b = omega (arith, same.0) in (
          (λ i. sym (ap (λ (d : ℕ). digit_glyph true d) first ∙ hexadecimal.writes a low) i ∷ sym (ap (λ (d : ℕ). digit_glyph true d) second ∙ hexadecimal.writes b high) i ∷ same.1 i)
              ∙ ap (λ (x : List ℕ). x ++ rest) (sym (two_digits byte small)),
          small,
        )

more_again : (between bytes rest : List ℕ) → All IsByte bytes
    → more_read between (length bytes) (flat_map (λ b. between ++ hex_two b) bytes ++ rest) ≡ Some (bytes, rest)
more_again between [] rest all = refl
more_again between (b ∷ bs) rest all =
    let small = All-head IsByte b bs all in
    let others = more_again between bs rest (All-tail IsByte b bs all) in
    let tail : List ℕ = flat_map (λ x. between ++ hex_two x) bs ++ rest in
    let grouped : ((between ++ hex_two b) ++ flat_map (λ x. between ++ hex_two x) bs) ++ rest ≡ between ++ (hex_two b ++ tail) = simp append_assoc in
    ap (λ (x : List ℕ). more_read between (suc (length bs)) x) grouped
    ∙ rw (after_again between (hex_two b ++ tail)) (rw (byte_again b tail small) (rw others refl))

more_takes : (between : List ℕ) (count : ℕ) (text bytes rest : List ℕ) → more_read between count text ≡ Some (bytes, rest)
    → (text ≡ flat_map (λ b. between ++ hex_two b) bytes ++ rest) × IsValue count bytes
more_takes between zero text bytes rest e =
    let same = some_pair ([], text) (bytes, rest) e in
    (same.1 ∙ ap (λ (x : List ℕ). flat_map (λ b. between ++ hex_two b) x ++ rest) same.0, (ap length (sym same.0), subst (λ (x : List ℕ). All IsByte x) same.0 (All-nil IsByte)))
more_takes between (suc count) text bytes rest e =
    let p = bind_some (after between text) _ (bytes, rest) e in
    let q = bind_some (byte_read p.0) _ (bytes, rest) p.2 in
    let r = bind_some (more_read between count q.0.1) _ (bytes, rest) q.2 in
    let start = after_takes between text p.0 p.1 in
    let first = byte_takes p.0 q.0.0 q.0.1 q.1 in
    let others = more_takes between count q.0.1 r.0.0 r.0.1 r.1 in
    let same = some_pair (q.0.0 ∷ r.0.0, r.0.1) (bytes, rest) r.2 in
    let whole : text ≡ flat_map (λ b. between ++ hex_two b) (q.0.0 ∷ r.0.0) ++ r.0.1 = start ∙ ap (λ (x : List ℕ). between ++ x) (first.0 ∙ ap
    (λ (x : List ℕ). hex_two q.0.0 ++ x) others.0) ∙ simp append_assoc in (
      whole ∙ (λ i. flat_map (λ b. between ++ hex_two b) (same.0 i) ++ same.1 i),
      (ap length (sym same.0) ∙ ap suc others.1.0, subst (λ (x : List ℕ). All IsByte x) same.0 (All-cons IsByte q.0.0 r.0.0 first.1 others.1.1)),
    )

bytes_again : (between bytes rest : List ℕ) → All IsByte bytes
    → bytes_read between (length bytes) (join_by hex_two between bytes ++ rest) ≡ Some (bytes, rest)
bytes_again between [] rest all = refl
bytes_again between (b ∷ bs) rest all =
    let small = All-head IsByte b bs all in
    let tail : List ℕ = flat_map (λ x. between ++ hex_two x) bs ++ rest in
    ap (λ (x : List ℕ). bytes_read between (suc (length bs)) x) (append_assoc (hex_two b) (flat_map (λ x. between ++ hex_two x) bs) rest)
    ∙ rw (byte_again b tail small) (rw (more_again between bs rest (All-tail IsByte b bs all)) refl)

bytes_takes : (between : List ℕ) (count : ℕ) (text bytes rest : List ℕ) → bytes_read between count text ≡ Some (bytes, rest)
    → (text ≡ join_by hex_two between bytes ++ rest) × IsValue count bytes
bytes_takes between zero text bytes rest e =
    let same = some_pair ([], text) (bytes, rest) e in
    (same.1 ∙ ap (λ (x : List ℕ). join_by hex_two between x ++ rest) same.0, (ap length (sym same.0), subst (λ (x : List ℕ). All IsByte x) same.0 (All-nil IsByte)))
bytes_takes between (suc count) text bytes rest e =
    let q = bind_some (byte_read text) _ (bytes, rest) e in
    let r = bind_some (more_read between count q.0.1) _ (bytes, rest) q.2 in
    let first = byte_takes text q.0.0 q.0.1 q.1 in
    let others = more_takes between count q.0.1 r.0.0 r.0.1 r.1 in
    let same = some_pair (q.0.0 ∷ r.0.0, r.0.1) (bytes, rest) r.2 in
    let whole : text ≡ join_by hex_two between (q.0.0 ∷ r.0.0) ++ r.0.1 = first.0 ∙ ap (λ (x : List ℕ). hex_two q.0.0 ++ x) others.0 ∙ simp append_assoc in (
      whole ∙ (λ i. join_by hex_two between (same.0 i) ++ same.1 i),
      (ap length (sym same.0) ∙ ap suc others.1.0, subst (λ (x : List ℕ). All IsByte x) same.0 (All-cons IsByte q.0.0 r.0.0 first.1 others.1.1)),
    )

-- the bytes of a number, and the number of bytes
pub low_is : (width n : ℕ) → IsValue width (low_bytes width n)
low_is zero n = (refl, All-nil IsByte)
low_is (suc w) n = let others = low_is w (n / 256) in (ap suc others.0, All-cons IsByte (n % 256) (low_bytes w (n / 256)) (omega arith) others.1)

pub low_value : (width n : ℕ) → n < 256 ^ width → little_endian (low_bytes width n) ≡ n
low_value zero n h = omega (arith, pow-zero 256)
low_value (suc w) n h =
    let others = low_value w (n / 256) (omega (arith, pow-suc 256 w)) in
    omega arith

pub value_low : (width : ℕ) (bytes : List ℕ) → IsValue width bytes → low_bytes width (little_endian bytes) ≡ bytes
value_low zero [] h = refl
value_low zero (b ∷ bs) h = absurd (omega (arith, h.0))
value_low (suc w) [] h = absurd (omega (arith, h.0))
value_low (suc w) (b ∷ bs) h =
    let small = All-head IsByte b bs h.1 in
    let others = value_low w bs (omega (arith, h.0), All-tail IsByte b bs h.1) in
    let first : (b + 256 * little_endian bs) % 256 ≡ b = omega arith in
    let next : (b + 256 * little_endian bs) / 256 ≡ little_endian bs = omega arith in
    (λ i. first i ∷ (ap (λ (x : ℕ). low_bytes w x) next ∙ others) i)

pub value_bound : (width : ℕ) (bytes : List ℕ) → IsValue width bytes → little_endian bytes < 256 ^ width
value_bound zero [] h = omega (arith, pow-zero 256)
value_bound zero (b ∷ bs) h = absurd (omega (arith, h.0))
value_bound (suc w) [] h = absurd (omega (arith, h.0))
value_bound (suc w) (b ∷ bs) h =
    let small = All-head IsByte b bs h.1 in
    let others = value_bound w bs (omega (arith, h.0), All-tail IsByte b bs h.1) in
    omega (arith, pow-suc 256 w)

-- no field goes on with its ending
goes_first : (shape : Shape) (c : ℕ) (cs : List ℕ) → goes_on shape (c ∷ cs) ≡ goes_on shape (c ∷ [])
goes_first Hexadecimal c cs = refl
goes_first Decimal c cs = refl
goes_first OrDefault c cs = refl
goes_first Back c cs = refl
goes_first Forth c cs = refl
goes_first Dashed c cs = refl
goes_first Next c cs = refl
goes_first Eisa c cs = refl
goes_first (Word list) c cs = refl

pub ends_is : (shape : Shape) (ending rest : List ℕ) → ends_field shape ending ≡ true → goes_on shape (ending ++ rest) ≡ false
ends_is shape (c ∷ cs) rest e = goes_first shape c (cs ++ rest) ∙ not-true (goes_on shape (c ∷ [])) e
ends_is Hexadecimal [] rest e = cc
ends_is Decimal [] rest e = cc
ends_is OrDefault [] rest e = cc
ends_is Back [] rest e = refl
ends_is Forth [] rest e = refl
ends_is Dashed [] rest e = refl
ends_is Next [] rest e = cc
ends_is Eisa [] rest e = refl
ends_is (Word list) [] rest e = refl

-- nor with what begins with no digit
decimal_too : (text : List ℕ) → has_digit 16 text ≡ false → has_digit 10 text ≡ false
decimal_too [] e = refl
decimal_too (c ∷ cs) e = by (ltb (digit_of c) 10) refl
  where
    by : (b : Bool) → ltb (digit_of c) 10 ≡ b → ltb (digit_of c) 10 ≡ false
    by false p = p
    by true p = let low = ltb-true _ _ p in let high = ltb-false _ _ e in absurd (omega arith)

pub open_is : (shape : Shape) (rest : List ℕ) → not (goes_on shape []) ≡ true → has_digit 16 rest ≡ false → goes_on shape rest ≡ false
open_is Hexadecimal rest n e = e
open_is Decimal rest n e = decimal_too rest e
open_is OrDefault rest n e = decimal_too rest e
open_is Back rest n e = refl
open_is Forth rest n e = refl
open_is Dashed rest n e = refl
open_is Next rest n e = e
open_is Eisa rest n e = refl
open_is (Word list) rest n e = refl

pub limits : (width : ℕ) → 1 ≤ width → width ≤ 8 → (16 ≤ 256 ^ width) × (256 ^ width ≤ 2 ^ 64)
limits width low high =
    let least = pow-le-pow_right {n = 256} (omega arith) {i = 1} {j = width} low in
    let most = pow-le-pow_right {n = 256} (omega arith) {i = width} {j = 8} high in
    (omega arith, omega arith)

pub number_bounds : (width : ℕ) → nat_le 1 width && nat_le width 8 ≡ true → (1 ≤ width) × (width ≤ 8)
number_bounds width e = by (leb 1 width) (leb width 8) refl refl e
  where
    by : (a b : Bool) → leb 1 width ≡ a → leb width 8 ≡ b → a && b ≡ true → (1 ≤ width) × (width ≤ 8)
    by false b p q e = cc
    by true false p q e = cc
    by true true p q e = (leb-true _ _ p, leb-true _ _ q)

hex_bytes_is : (bytes : List ℕ) → hex_bytes bytes ≡ join_by hex_two [] bytes
unfolding hex_bytes
hex_bytes_is [] = refl
hex_bytes_is (b ∷ bs) = refl

back_is : (bytes : List ℕ) → hex_back bytes ≡ join_by hex_two [] (reverse bytes)
unfolding hex_back
back_is bytes = hex_bytes_is (reverse bytes)

dashed_is : (bytes : List ℕ) → dashed_back bytes ≡ join_by hex_two (codes "-") (reverse bytes)
unfolding dashed_back
dashed_is bytes = refl

pub reversed_is : (width : ℕ) (bytes : List ℕ) → IsValue width bytes → IsValue width (reverse bytes)
reversed_is width bytes h = (
  length-reverse bytes ∙ h.0,
  All-from_get_or IsByte (reverse bytes) 0 (λ i l.
      let within : i < length bytes = omega (arith, length-reverse bytes) in
      subst IsByte (sym (get_or-reverse bytes i 0 within)) (All-get_or IsByte bytes (length bytes - 1 - i) 0 (omega arith) h.1)),
)

number_field : (base : ℕ) (upper : Bool) → IsBase base upper → base ≤ 16 → (width : ℕ) → 1 ≤ width → width ≤ 8 → (value rest : List ℕ)
    → IsValue width value → has_digit base rest ≡ false
    → (number_read base (256 ^ width) (digits base upper (little_endian value) ++ rest) >>= as_bytes width) ≡ Some (value, rest)
number_field base upper is small width low high value rest h e =
    rw (number_again base upper is (256 ^ width) (limits width low high).1 (little_endian value) (value_bound width value h) rest e)
    (ap (λ (x : List ℕ). Some (x, rest)) (value_low width value h))

default_field : (width : ℕ) → 1 ≤ width → width ≤ 8 → (value rest : List ℕ) → IsValue width value → has_digit 10 rest ≡ false
    → (default_read (256 ^ width) (default_text (little_endian value) ++ rest) >>= as_bytes width) ≡ Some (value, rest)
default_field width low high value rest h e = by (eqb n 0) refl
  where
    n : ℕ
    n = little_endian value

    limit : ℕ
    limit = 256 ^ width

    read : List ℕ → Option (List ℕ × List ℕ)
    read text = default_read limit (text ++ rest) >>= as_bytes width

    by : (b : Bool) → eqb n 0 ≡ b → read (cond b (codes "DEFAULT") (digits 10 false n)) ≡ Some (value, rest)
    by true p = ap (λ (x : List ℕ). Some (x, rest)) (ap (λ (x : ℕ). low_bytes width x) (sym (eqb-true n 0 p)) ∙ value_low width value h)
    by false p =
        let number = number_again 10 false decimal_base limit (limits width low high).1 n (value_bound width value h) rest e in
        rw number (rw p (ap (λ (x : List ℕ). Some (x, rest)) (value_low width value h)))

next_field : (value rest : List ℕ) → IsValue 1 value → has_digit 16 rest ≡ false
    → (next_read (digits 16 true (little_endian value + 1) ++ rest) >>= as_bytes 1) ≡ Some (value, rest)
next_field value rest h e =
    let n : ℕ = little_endian value in
    let small : n < 256 = omega (arith, value_bound 1 value h) in
    let number = number_again 16 true hexadecimal 257 (omega arith) (n + 1) (omega arith) rest e in
    let some : eqb (n + 1) 0 ≡ false = ne_eqb (n + 1) 0 (λ z. omega arith) in
    let same : n + 1 - 1 ≡ n = omega arith in
    ap (λ (o : Option (ℕ × List ℕ)). o >>= less_one >>= as_bytes 1) number
    ∙ ap (λ (b : Bool). cond b None (Some (n + 1 - 1, rest)) >>= as_bytes 1) some
    ∙ ap (λ (k : ℕ). Some (low_bytes 1 k, rest)) same
    ∙ ap (λ (x : List ℕ). Some (x, rest)) (value_low 1 value h)

-- IDs of EISA: the letters
letter_back : (d : ℕ) → d < 32 → letter_of (d + 64) ≡ d
letter_back d h =
    let back : d + 64 - 64 ≡ d = omega arith in
    (λ i. cond (le-leb 64 (d + 64) (omega arith) i && lt-ltb (d + 64) 96 (omega (arith, h)) i) (d + 64 - 64) 32) ∙ back

letter_is : (c : ℕ) → ltb (letter_of c) 32 ≡ true → c ≡ letter_of c + 64
letter_is c h = by (leb 64 c) (ltb c 96) refl (ltb-true (letter_of c) 32 h)
  where
    by : (t s : Bool) → leb 64 c ≡ t → cond (t && s) (c - 64) 32 < 32 → c ≡ cond (t && s) (c - 64) 32 + 64
    by false s p q = absurd (omega (arith, q))
    by true false p q = absurd (omega (arith, q))
    by true true p q = let low = leb-true 64 c p in omega (arith, low)

letters_again : (a b c : ℕ) (text : List ℕ) → a < 32 → b < 32 → c < 32
    → letters_read ((a + 64) ∷ (b + 64) ∷ (c + 64) ∷ text) ≡ Some (a * 1024 + b * 32 + c, text)
letters_again a b c text x y z =
    let found : ℕ → ℕ → ℕ → Option (ℕ × List ℕ) = λ l m n. Some (l * 1024 + m * 32 + n, text) in
    let l = letter_back a x in
    let m = letter_back b y in
    let n = letter_back c z in
    (λ i. cond (ltb (l i) 32 && (ltb (m i) 32 && ltb (n i) 32)) (found (l i) (m i) (n i)) None)
    ∙ (λ i. cond (lt-ltb a 32 x i && (lt-ltb b 32 y i && lt-ltb c 32 z i)) (found a b c) None)

record Letters (text : List ℕ) (letters : ℕ) (rest : List ℕ) : Type 0 where
  a : ℕ
  b : ℕ
  c : ℕ
  a_small : a < 32
  b_small : b < 32
  c_small : c < 32
  text_is : text ≡ (a + 64) ∷ (b + 64) ∷ (c + 64) ∷ rest
  sum : letters ≡ a * 1024 + b * 32 + c

letters_take : (text : List ℕ) (letters : ℕ) (rest : List ℕ) → letters_read text ≡ Some (letters, rest) → Letters text letters rest
letters_take [] letters rest e = cc
letters_take (a ∷ []) letters rest e = cc
letters_take (a ∷ b ∷ []) letters rest e = cc
letters_take (a ∷ b ∷ c ∷ text) letters rest e = by (ltb (letter_of a) 32) (ltb (letter_of b) 32) (ltb (letter_of c) 32) refl refl refl e
  where
    found : Option (ℕ × List ℕ)
    found = Some (letter_of a * 1024 + letter_of b * 32 + letter_of c, text)

    by : (t s r : Bool) → ltb (letter_of a) 32 ≡ t → ltb (letter_of b) 32 ≡ s → ltb (letter_of c) 32 ≡ r
        → cond (t && (s && r)) found None ≡ Some (letters, rest) → Letters (a ∷ b ∷ c ∷ text) letters rest
    by false s r p q z e = cc
    by true false r p q z e = cc
    by true true false p q z e = cc
    by true true true p q z e =
        let same = some_pair (letter_of a * 1024 + letter_of b * 32 + letter_of c, text) (letters, rest) e in
        record {
          a = letter_of a;
          b = letter_of b;
          c = letter_of c;
          a_small = ltb-true _ _ p;
          b_small = ltb-true _ _ q;
          c_small = ltb-true _ _ z;
          text_is = λ i. letter_is a p i ∷ letter_is b q i ∷ letter_is c z i ∷ same.1 i;
          sum = sym same.0;
        }

-- the text of an ID, by its letters and the bytes of its digits
id_text : (n a b c high low : ℕ) → eqb (eisa_bits n) 0 ≡ false → n < 2 ^ 32 → n / 1024 % 32 ≡ a → n / 32 % 32 ≡ b → n % 32 ≡ c
    → n / 65536 / 256 ≡ high → n / 65536 % 256 ≡ low → eisa_text n ≡ (a + 64) ∷ (b + 64) ∷ (c + 64) ∷ (hex_two high ++ hex_two low)
unfolding eisa_text eisa_letter hex_four
id_text n a b c high low some small x y z h l =
    let letter : (d : ℕ) → d < 32 → encode_utf8 (d + 64) ≡ (d + 64) ∷ [] = λ d e. encode_ascii (d + 64) (omega (arith, e)) in
    rw some ((λ i. encode_utf8 (x i + 64) ++ (encode_utf8 (y i + 64) ++ (encode_utf8 (z i + 64) ++ (hex_two (h i) ++ hex_two (l i)))))
    ∙ (λ i. letter a (omega (arith, x)) i ++ (letter b (omega (arith, y)) i ++ (letter c (omega (arith, z)) i ++ (hex_two high ++ hex_two low)))))

digits_again : (letters high low : ℕ) (rest : List ℕ) → high < 256 → low < 256 → eqb (letters + (high * 256 + low) * 65536) 0 ≡ false
    → (byte_read (hex_two high ++ (hex_two low ++ rest)) >>= digits_of_id letters) ≡ Some (letters + (high * 256 + low) * 65536, rest)
digits_again letters high low rest h l some =
    let found : Option (ℕ × List ℕ) = Some (letters + (high * 256 + low) * 65536, rest) in
    after_some _ (digits_of_id letters) (high, hex_two low ++ rest) (byte_again high (hex_two low ++ rest) h)
    ∙ after_some _ (λ (x : ℕ × List ℕ). some_id (letters + (high * 256 + x.0) * 65536) x.1) (low, rest) (byte_again low rest l)
    ∙ ap (λ (t : Bool). cond t None found) some

-- an ID that is not 0, from its text
letters_not_zero : (a : ℕ) (text : List ℕ) (other : Option (ℕ × List ℕ)) → or_word 0 (after (codes "0") ((a + 64) ∷ text)) other ≡ other
letters_not_zero a text other = ap (λ (t : Bool). or_word 0 (cond t (Some text) None) other) (ne_eqb 48 (a + 64) (λ z. omega (arith, z)))

zero_text : (n : ℕ) → eqb (eisa_bits n) 0 ≡ true → eisa_text n ≡ codes "0"
unfolding eisa_text
zero_text n e = rw e refl

eisa_again : (n : ℕ) → n < 2 ^ 32 → (rest : List ℕ) → eisa_read (eisa_text n ++ rest) ≡ Some (eisa_bits n, rest)
eisa_again n small rest = by (eqb (eisa_bits n) 0) refl
  where
    a : ℕ
    a = n / 1024 % 32

    b : ℕ
    b = n / 32 % 32

    c : ℕ
    c = n % 32

    high : ℕ
    high = n / 65536 / 256

    low : ℕ
    low = n / 65536 % 256

    by : (t : Bool) → eqb (eisa_bits n) 0 ≡ t → eisa_read (eisa_text n ++ rest) ≡ Some (eisa_bits n, rest)
    by true p =
        ap (λ (x : List ℕ). eisa_read (x ++ rest)) (zero_text n p) ∙ ap (λ (m : ℕ). Some (m, rest)) (sym (eqb-true (eisa_bits n) 0 p))
    by false p =
        let left : List ℕ = hex_two high ++ (hex_two low ++ rest) in
        let text : List ℕ = (a + 64) ∷ (b + 64) ∷ (c + 64) ∷ left in
        let letters : ℕ = a * 1024 + b * 32 + c in
        let id : letters + (high * 256 + low) * 65536 ≡ eisa_bits n = omega arith in
        let others : ℕ × List ℕ → Option (ℕ × List ℕ) = λ l. byte_read l.1 >>= digits_of_id l.0 in
        ap (λ (x : List ℕ). eisa_read (x ++ rest)) (id_text n a b c high low p small refl refl refl refl refl)
        ∙ ap (λ (x : List ℕ). eisa_read ((a + 64) ∷ (b + 64) ∷ (c + 64) ∷ x)) (append_assoc (hex_two high) (hex_two low) rest)
        ∙ letters_not_zero a ((b + 64) ∷ (c + 64) ∷ left) (letters_read text >>= others)
        ∙ after_some _ others (letters, left) (letters_again a b c left (omega arith) (omega arith) (omega arith))
        ∙ digits_again letters high low rest (omega (arith, small)) (omega arith) (ap (λ (m : ℕ). eqb m 0) id ∙ p)
        ∙ ap (λ (m : ℕ). Some (m, rest)) id

record IdTaken (text : List ℕ) (n : ℕ) (rest : List ℕ) : Type 0 where
  text_is : text ≡ eisa_text n ++ rest
  small : n < 2 ^ 32
  own : eisa_bits n ≡ n

eisa_takes : (text : List ℕ) (n : ℕ) (rest : List ℕ) → eisa_read text ≡ Some (n, rest) → IdTaken text n rest
eisa_takes text n rest e = by (after (codes "0") text) refl e
  where
    others : ℕ × List ℕ → Option (ℕ × List ℕ)
    others l = byte_read l.1 >>= digits_of_id l.0

    some : (id : ℕ) (left : List ℕ) → some_id id left ≡ Some (n, rest) → (eqb id 0 ≡ false) × (id ≡ n) × (left ≡ rest)
    some id left e = at (eqb id 0) refl e
      where
        found : Option (ℕ × List ℕ)
        found = Some (id, left)

        at : (t : Bool) → eqb id 0 ≡ t → cond t None found ≡ Some (n, rest) → (eqb id 0 ≡ false) × (id ≡ n) × (left ≡ rest)
        at true p q = cc
        at false p q = let same = some_pair (id, left) (n, rest) q in (p, same.0, same.1)

    by : (o : Option (List ℕ)) → after (codes "0") text ≡ o → or_word 0 o (letters_read text >>= others) ≡ Some (n, rest) → IdTaken text n rest
    by (Some t) p q =
        let same = some_pair (0, t) (n, rest) q in
        record {
          text_is = after_takes (codes "0") text t p ∙ ap (λ (x : List ℕ). x ++ t) (sym (zero_text 0 refl)) ∙ (λ i. eisa_text (same.0 i) ++ same.1 i);
          small = omega (arith, same.0);
          own = omega (arith, same.0);
        }
    by None p q =
        let l = bind_some (letters_read text) others (n, rest) q in
        let h = bind_some (byte_read l.0.1) (digits_of_id l.0.0) (n, rest) l.2 in
        let k = bind_some (byte_read h.0.1) (λ (x : ℕ × List ℕ). some_id (l.0.0 + (h.0.0 * 256 + x.0) * 65536) x.1) (n, rest) h.2 in
        let letters = letters_take text l.0.0 l.0.1 l.1 in
        let high = byte_takes l.0.1 h.0.0 h.0.1 h.1 in
        let low = byte_takes h.0.1 k.0.0 k.0.1 k.1 in
        let id : ℕ = l.0.0 + (h.0.0 * 256 + k.0.0) * 65536 in
        let same = some id k.0.1 k.2 in
        let bound : l.0.0 < 32768 = omega (arith, letters.sum, letters.a_small, letters.b_small, letters.c_small) in
        let own : eisa_bits id ≡ id = omega (arith, bound) in
        let text_of_id = id_text id letters.a letters.b letters.c h.0.0 k.0.0 (ap (λ (m : ℕ). eqb m 0) own ∙ same.0) (omega (arith, bound, high.1, low.1))
        (omega (arith, letters.sum, letters.a_small, letters.b_small, letters.c_small)) (omega (arith, letters.sum, letters.a_small, letters.b_small, letters.c_small))
        (omega (arith, letters.sum, letters.c_small)) (omega (arith, bound, high.1, low.1)) (omega (arith, bound, low.1)) in
        let whole : text ≡ eisa_text id ++ k.0.1 = letters.text_is
        ∙ ap (λ (x : List ℕ). (letters.a + 64) ∷ (letters.b + 64) ∷ (letters.c + 64) ∷ x) (high.0 ∙ ap (λ (x : List ℕ). hex_two h.0.0 ++ x) low.0
        ∙ sym (append_assoc (hex_two h.0.0) (hex_two k.0.0) k.0.1)) ∙ ap (λ (x : List ℕ). x ++ k.0.1) (sym text_of_id) in
        record {
          text_is = whole ∙ (λ i. eisa_text (same.1 i) ++ same.2 i);
          small = subst (λ (m : ℕ). m < 2 ^ 32) same.1 (omega (arith, bound, high.1, low.1));
          own = subst (λ (m : ℕ). eisa_bits m ≡ m) same.1 own;
        }

pub sound_words : (list : Words) → are_sound (words_of list) ≡ true
unfolding words_of
sound_words Parity = refl
sound_words StopBits = refl
sound_words Digests = refl
sound_words Login = refl
sound_words Protocol = refl

pub field_again : (field : Shape) (width : ℕ) → fits_shape field width ≡ true → (value rest : List ℕ) → IsValue width value
    → goes_on field rest ≡ false → field_read field width (field_text field value ++ rest) ≡ Some (field_kept field value, rest)
field_again Hexadecimal width fits value rest h e = let bounds = number_bounds width fits in number_field 16 true hexadecimal (omega arith) width bounds.0 bounds.1 value rest h e
field_again Decimal width fits value rest h e = let bounds = number_bounds width fits in number_field 10 false decimal_base (omega arith) width bounds.0 bounds.1 value rest h e
field_again OrDefault width fits value rest h e = let bounds = number_bounds width fits in default_field width bounds.0 bounds.1 value rest h e
field_again Next width fits value rest h e =
    let one = eqb-true width 1 fits in
    ap (λ (k : ℕ). next_read (digits 16 true (little_endian value + 1) ++ rest) >>= as_bytes k) one
    ∙ next_field value rest (h.0 ∙ one, h.1) e
field_again Eisa width fits value rest h e =
    let four = eqb-true width 4 fits in
    let bound : little_endian value < 256 ^ 4 = subst (λ (w : ℕ). little_endian value < 256 ^ w) four (value_bound width value h) in
    after_some _ (as_bytes width) _ (eisa_again (little_endian value) (omega (arith, bound)) rest)
    ∙ ap (λ (k : ℕ). Some (low_bytes k (eisa_bits (little_endian value)), rest)) (sym h.0)
field_again (Word list) width fits value rest h e =
    after_some _ (as_bytes width) _ (word_again (words_of list) (sound_words list) (little_endian value) rest)
    ∙ ap (λ (k : ℕ). Some (low_bytes k (word_number (words_of list) (little_endian value)), rest)) (sym h.0)
field_again Back width fits value rest h e =
    let back = reversed_is width value h in
    ap (λ (x : List ℕ). bytes_read [] width (x ++ rest) >>= turned) (back_is value)
    ∙ ap (λ (n : ℕ). bytes_read [] n (join_by hex_two [] (reverse value) ++ rest) >>= turned) (sym back.0)
    ∙ after_some _ turned _ (bytes_again [] (reverse value) rest back.1) ∙ ap (λ (x : List ℕ). Some (x, rest)) (reverse-reverse value)
field_again Forth width fits value rest h e =
    ap (λ (x : List ℕ). bytes_read [] width (x ++ rest)) (hex_bytes_is value)
    ∙ ap (λ (n : ℕ). bytes_read [] n (join_by hex_two [] value ++ rest)) (sym h.0) ∙ bytes_again [] value rest h.1
field_again Dashed width fits value rest h e =
    let back = reversed_is width value h in
    ap (λ (x : List ℕ). bytes_read (codes "-") width (x ++ rest) >>= turned) (dashed_is value)
    ∙ ap (λ (n : ℕ). bytes_read (codes "-") n (join_by hex_two (codes "-") (reverse value) ++ rest) >>= turned) (sym back.0)
    ∙ after_some _ turned _ (bytes_again (codes "-") (reverse value) rest back.1) ∙ ap (λ (x : List ℕ). Some (x, rest)) (reverse-reverse value)

number_field_takes : (base : ℕ) (upper : Bool) → IsBase base upper → base ≤ 16 → (width : ℕ) → 1 ≤ width → width ≤ 8
    → (text value rest : List ℕ) → (number_read base (256 ^ width) text >>= as_bytes width) ≡ Some (value, rest)
    → (text ≡ digits base upper (little_endian value) ++ rest) × IsValue width value
number_field_takes base upper is small width low high text value rest e =
    let within = limits width low high in
    let p = bind_some (number_read base (256 ^ width) text) (as_bytes width) (value, rest) e in
    let n = number_takes base upper is (256 ^ width) (omega arith) within.1 text p.0.0 p.0.1 p.1 in
    let same = some_pair (low_bytes width p.0.0, p.0.1) (value, rest) p.2 in
    let number : p.0.0 ≡ little_endian value = sym (low_value width p.0.0 n.1) ∙ ap (λ (x : List ℕ). little_endian x) same.0 in
    (n.0 ∙ (λ i. digits base upper (number i) ++ same.1 i), subst (λ (x : List ℕ). IsValue width x) same.0 (low_is width p.0.0))

turned_takes : (between : List ℕ) (width : ℕ) (text value rest : List ℕ) → (bytes_read between width text >>= turned) ≡ Some (value, rest)
    → (text ≡ join_by hex_two between (reverse value) ++ rest) × IsValue width value
turned_takes between width text value rest e =
    let p = bind_some (bytes_read between width text) turned (value, rest) e in
    let b = bytes_takes between width text p.0.0 p.0.1 p.1 in
    let same = some_pair (reverse p.0.0, p.0.1) (value, rest) p.2 in
    let back : p.0.0 ≡ reverse value = sym (reverse-reverse p.0.0) ∙ ap reverse same.0 in
    (b.0 ∙ (λ i. join_by hex_two between (back i) ++ same.1 i), subst (λ (x : List ℕ). IsValue width x) same.0 (reversed_is width p.0.0 b.1))

default_takes : (width : ℕ) → 1 ≤ width → width ≤ 8 → (text value rest : List ℕ) → (default_read (256 ^ width) text >>= as_bytes width) ≡ Some (value, rest)
    → (text ≡ default_text (little_endian value) ++ rest) × IsValue width value
default_takes width low high text value rest e =
    let p = bind_some (default_read limit text) (as_bytes width) (value, rest) e in
    let same = some_pair (low_bytes width p.0.0, p.0.1) (value, rest) p.2 in
    let read = by (number_read 10 limit text) (after (codes "DEFAULT") text) p.0 refl refl p.1 in
    let number : p.0.0 ≡ little_endian value = sym (low_value width p.0.0 read.1) ∙ ap (λ (x : List ℕ). little_endian x) same.0 in
    (read.0 ∙ (λ i. default_text (number i) ++ same.1 i), subst (λ (x : List ℕ). IsValue width x) same.0 (low_is width p.0.0))
  where
    limit : ℕ
    limit = 256 ^ width

    by : (a : Option (ℕ × List ℕ)) (b : Option (List ℕ)) (x : ℕ × List ℕ) → number_read 10 limit text ≡ a → after (codes "DEFAULT") text ≡ b
        → or_default a b ≡ Some x → (text ≡ default_text x.0 ++ x.1) × (x.0 < limit)
    by None None x p q r = cc
    by None (Some t) x p q r =
        let same = some_pair (0, t) x r in
        (after_takes (codes "DEFAULT") text t q ∙ (λ i. default_text (same.0 i) ++ same.1 i), subst (λ (n : ℕ). n < limit) same.0 (omega (arith, (limits width low high).0)))
    by (Some n) b x p q r = at (eqb n.0 0) refl r
      where
        at : (z : Bool) → eqb n.0 0 ≡ z → cond z None (Some n) ≡ Some x → (text ≡ default_text x.0 ++ x.1) × (x.0 < limit)
        at true y z = cc
        at false y z =
            let same = some_pair n x z in
            let within = limits width low high in
            let t = number_takes 10 false decimal_base limit (omega arith) within.1 text n.0 n.1 p in (
              t.0 ∙ ap (λ (c : Bool). cond c (codes "DEFAULT") (digits 10 false n.0) ++ n.1) (sym y) ∙ (λ i. default_text (same.0 i) ++ same.1 i),
              subst (λ (k : ℕ). k < limit) same.0 t.1,
            )

next_takes : (text value rest : List ℕ) → (next_read text >>= as_bytes 1) ≡ Some (value, rest)
    → (text ≡ digits 16 true (little_endian value + 1) ++ rest) × IsValue 1 value
next_takes text value rest e =
    let p = bind_some (next_read text) (as_bytes 1) (value, rest) e in
    let q = bind_some (number_read 16 257 text) less_one p.0 p.1 in
    let t = number_takes 16 true hexadecimal 257 (omega arith) (omega arith) text q.0.0 q.0.1 q.1 in
    let next = by q.0 p.0 (eqb q.0.0 0) refl q.2 in
    let same = some_pair (low_bytes 1 p.0.0, p.0.1) (value, rest) p.2 in
    let number : p.0.0 ≡ little_endian value = sym (low_value 1 p.0.0 (omega (arith, t.1, next.0))) ∙ ap (λ (x : List ℕ). little_endian x) same.0 in (
      t.0 ∙ (λ i. digits 16 true (next.0 i) ++ next.1 i) ∙ (λ i. digits 16 true (number i + 1) ++ same.1 i),
      subst (λ (x : List ℕ). IsValue 1 x) same.0 (low_is 1 p.0.0),
    )
  where
    by : (read less : ℕ × List ℕ) (b : Bool) → eqb read.0 0 ≡ b → cond b None (Some (read.0 - 1, read.1)) ≡ Some less
        → (read.0 ≡ less.0 + 1) × (read.1 ≡ less.1)
    by read less true p q = cc
    by read less false p q =
        let same = some_pair (read.0 - 1, read.1) less q in
        let some : read.0 ≢ 0 = λ z. true≢false (sym (eq-eqb read.0 0 z) ∙ p) in
        (omega (arith, same.0), same.1)

words_take : (list : Words) (width : ℕ) → 1 ≤ width → width ≤ 8 → (text value rest : List ℕ) → (word_read (words_of list) text >>= as_bytes width) ≡ Some (value, rest)
    → (text ≡ word_text (words_of list) (little_endian value) ++ rest) × (IsValue width value) × (field_kept (Word list) value ≡ value)
words_take list width low high text value rest e =
    let p = bind_some (word_read (words_of list) text) (as_bytes width) (value, rest) e in
    let same = some_pair (low_bytes width p.0.0, p.0.1) (value, rest) p.2 in
    let read = word_takes (words_of list) (sound_words list) text p.0.0 p.0.1 p.1 in
    let least = pow-le-pow_right {n = 256} (omega arith) {i = 1} {j = width} low in
    let number : little_endian value ≡ p.0.0 = ap (λ (x : List ℕ). little_endian x) (sym same.0) ∙ low_value width p.0.0 (omega (arith, read.small)) in
    let is : IsValue width value = subst (λ (x : List ℕ). IsValue width x) same.0 (low_is width p.0.0) in (
      read.text_is ∙ (λ i. word_text (words_of list) (sym number i) ++ same.1 i),
      is,
      (λ i. low_bytes (is.0 i) (word_number (words_of list) (number i))) ∙ ap (λ (n : ℕ). low_bytes width n) read.own ∙ same.0,
    )

eisa_take : (width : ℕ) → width ≡ 4 → (text value rest : List ℕ) → (eisa_read text >>= as_bytes width) ≡ Some (value, rest)
    → (text ≡ eisa_text (little_endian value) ++ rest) × (IsValue width value) × (field_kept Eisa value ≡ value)
eisa_take width four text value rest e =
    let p = bind_some (eisa_read text) (as_bytes width) (value, rest) e in
    let same = some_pair (low_bytes width p.0.0, p.0.1) (value, rest) p.2 in
    let read = eisa_takes text p.0.0 p.0.1 p.1 in
    let bound : p.0.0 < 256 ^ width = subst (λ (w : ℕ). p.0.0 < 256 ^ w) (sym four) (omega (arith, read.small)) in
    let number : little_endian value ≡ p.0.0 = ap (λ (x : List ℕ). little_endian x) (sym same.0) ∙ low_value width p.0.0 bound in
    let is : IsValue width value = subst (λ (x : List ℕ). IsValue width x) same.0 (low_is width p.0.0) in (
      read.text_is ∙ (λ i. eisa_text (sym number i) ++ same.1 i),
      is,
      (λ i. low_bytes (is.0 i) (eisa_bits (number i))) ∙ ap (λ (n : ℕ). low_bytes width n) read.own ∙ same.0,
    )

-- what is known of a field that was read
abbrev pub FieldTaken : Shape → ℕ → List ℕ → List ℕ → List ℕ → Type 0
FieldTaken field width text value rest = (text ≡ field_text field value ++ rest) × (IsValue width value) × (field_kept field value ≡ value)

pub field_takes : (field : Shape) (width : ℕ) → fits_shape field width ≡ true → (text value rest : List ℕ)
    → field_read field width text ≡ Some (value, rest) → FieldTaken field width text value rest
field_takes Hexadecimal width fits text value rest e =
    let bounds = number_bounds width fits in
    let r = number_field_takes 16 true hexadecimal (omega arith) width bounds.0 bounds.1 text value rest e in (r.0, r.1, refl)
field_takes Decimal width fits text value rest e =
    let bounds = number_bounds width fits in
    let r = number_field_takes 10 false decimal_base (omega arith) width bounds.0 bounds.1 text value rest e in (r.0, r.1, refl)
field_takes OrDefault width fits text value rest e =
    let bounds = number_bounds width fits in
    let r = default_takes width bounds.0 bounds.1 text value rest e in (r.0, r.1, refl)
field_takes Next width fits text value rest e =
    let one = eqb-true width 1 fits in
    let r = next_takes text value rest (ap (λ (k : ℕ). next_read text >>= as_bytes k) (sym one) ∙ e) in (r.0, (r.1.0 ∙ sym one, r.1.1), refl)
field_takes Eisa width fits text value rest e = eisa_take width (eqb-true width 4 fits) text value rest e
field_takes (Word list) width fits text value rest e = let bounds = number_bounds width fits in words_take list width bounds.0 bounds.1 text value rest e
field_takes Back width fits text value rest e =
    let r = turned_takes [] width text value rest e in (r.0 ∙ ap (λ (x : List ℕ). x ++ rest) (sym (back_is value)), r.1, refl)
field_takes Forth width fits text value rest e =
    let r = bytes_takes [] width text value rest e in (r.0 ∙ ap (λ (x : List ℕ). x ++ rest) (sym (hex_bytes_is value)), r.1, refl)
field_takes Dashed width fits text value rest e =
    let r = turned_takes (codes "-") width text value rest e in (r.0 ∙ ap (λ (x : List ℕ). x ++ rest) (sym (dashed_is value)), r.1, refl)
