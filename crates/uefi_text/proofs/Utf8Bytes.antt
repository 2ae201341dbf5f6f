-- What the bytes of a Rust text say of its characters.
use Rattle.std.proofs.Common.{◌⊎◌, cond, ◌≡◌, ◌≢◌, ◌↔◌, All, ℕ, ◌<◌, ◌≤◌, ◌+◌, ◌*◌, take, drop, subst, ◌/◌, ◌%◌, nat_le, ◌++◌, ◌∙◌, ap, zero, suc, true, false, List, [], ◌∷◌, get_or, length, None, arith, refl, sym, inl, inr}
use Rattle.std.specs.Char.{encode_utf8}
use Rattle.std.specs.Fmt.{is_char_start}
use Rattle.std.specs.List.{count_by, find, list_any}
use Rattle.std.specs.Str.{chars, encode_utf8_all, IsAscii, IsUtf8}
use Rattle.std.proofs.lemmas.Bool.{cases_lt, le-ltb, lt-ltb}
use Rattle.std.proofs.lemmas.List.Elements.{All-append, All-cons, All-drop, All-head, All-nil, All-tail, All-weaker}
use Rattle.std.proofs.lemmas.List.{length-append, take-append-drop}
use Rattle.std.proofs.lemmas.List.Sums.{count_by-le-length, sum_by-append, sum_by-cons}
use Rattle.std.proofs.lemmas.Str.{chars-IsAscii, chars-append, encode_ascii, encodes-chars, IsUtf8-from_ascii, IsUtf8-past_char}
use Rattle.std.proofs.lemmas.Grind.{common_steps}
use Rattle.std.proofs.Math.Seq.{drop-append_seam}
use Rattle.std.proofs.Math.Utf8.{encodes}
use Rattle.uefi_text.proofs.Scanning.{none_is_nul, none_passes-is}
use Rattle.uefi_text.specs.FromStr.{IsAcceptedChar, is_deciding_char}
use Rattle.uefi_text.specs.Latin1.{IsLatin1}
use Rattle.uefi_text.specs.Scans.{IsAsciiTextByte, is_beyond_latin1_byte, is_deciding_byte, is_no_ascii_text}
use Rattle.uefi_text.specs.Units.{is_nul}

pub ascii_text_byte : (b : ℕ) → (is_no_ascii_text b ≡ false) ↔ IsAsciiTextByte b
ascii_text_byte b = (λ no. grind (arith, common_steps), λ is. grind (arith, common_steps))

ascii_text_ascii : (bs : List ℕ) → All IsAsciiTextByte bs → IsAscii bs
ascii_text_ascii [] are i = omega arith
ascii_text_ascii (b ∷ bs) are zero = (All-head IsAsciiTextByte b bs are).1
ascii_text_ascii (b ∷ bs) are (suc i) = ascii_text_ascii bs (All-tail IsAsciiTextByte b bs are) i

-- characters that a UCS-2 text holds are not refused
pub find-accepted : (cs : List ℕ) → All IsAcceptedChar cs → find is_deciding_char cs ≡ None
find-accepted [] are = refl
find-accepted (c ∷ cs) are =
    let first : IsAcceptedChar c = All-head IsAcceptedChar c cs are in
    let rest = find-accepted cs (All-tail IsAcceptedChar c cs are) in
    let other : is_deciding_char c ≡ false = grind (arith, common_steps) in
    grind (arith, common_steps)

-- ASCII bytes without NUL are their own characters, and none of these is refused
pub ascii_text_chars : (bs : List ℕ) → All IsAsciiTextByte bs → (chars bs ≡ bs) × (find is_deciding_char bs ≡ None)
ascii_text_chars bs are = (
  chars-IsAscii bs (ascii_text_ascii bs are),
  find-accepted bs (All-weaker IsAsciiTextByte IsAcceptedChar (λ b is. omega (arith, is)) bs are),
)

-- none of them is NUL
pub ascii_text_no_nul : (bs : List ℕ) → All IsAsciiTextByte bs → All (λ c. c ≢ 0) bs
ascii_text_no_nul bs are = All-weaker IsAsciiTextByte (λ c. c ≢ 0) (λ b is. λ zero_byte. omega (arith, is, zero_byte)) bs are

IsUtf8-after_ascii : (front rest : List ℕ) → IsAscii front → IsUtf8 (front ++ rest) → IsUtf8 rest
IsUtf8-after_ascii [] rest ascii utf8 = utf8
IsUtf8-after_ascii (b ∷ front) rest ascii utf8 =
    let one : b ∷ front ++ rest ≡ encode_utf8 b ++ (front ++ rest) = rw (encode_ascii b (ascii 0)) refl in
    IsUtf8-after_ascii front rest (λ i. ascii (suc i)) (IsUtf8-past_char (b ∷ front ++ rest) (front ++ rest) b utf8 one)

-- where they begin a Rust text, what follows them is one
pub IsUtf8-after_ascii_text : (n : ℕ) (bs : List ℕ) → All IsAsciiTextByte (take n bs) → IsUtf8 bs → IsUtf8 (drop n bs)
IsUtf8-after_ascii_text n bs ascii utf8 =
    IsUtf8-after_ascii (take n bs) (drop n bs) (ascii_text_ascii (take n bs) ascii) (subst IsUtf8 (sym (take-append-drop n bs)) utf8)

-- and they are its first characters
pub ascii_text_then : (n : ℕ) (bs : List ℕ) → All IsAsciiTextByte (take n bs) → IsUtf8 bs → chars bs ≡ take n bs ++ chars (drop n bs)
ascii_text_then n bs ascii utf8 =
    let front = take n bs in
    let is_ascii = ascii_text_ascii front ascii in
    sym (ap chars (take-append-drop n bs)) ∙ chars-append front (drop n bs) (IsUtf8-from_ascii front is_ascii)
    ∙ ap (λ (cs : List ℕ). cs ++ chars (drop n bs)) (chars-IsAscii front is_ascii)

pub encode_utf8-four : (c : ℕ) → 65536 ≤ c
    → encode_utf8 c ≡ (240 + c / 262144) ∷ (128 + c / 4096 % 64) ∷ (128 + c / 64 % 64) ∷ (128 + c % 64) ∷ []
unfolding encode_utf8
encode_utf8-four c low =
    let one : 128 ≤ c = omega arith in
    let two : 2048 ≤ c = omega arith in
    rw (le-ltb c 128 one, le-ltb c 2048 two, le-ltb c 65536 low) refl

pub encode_utf8-two : (c : ℕ) → 128 ≤ c → c < 2048 → encode_utf8 c ≡ (192 + c / 64) ∷ (128 + c % 64) ∷ []
unfolding encode_utf8
encode_utf8-two c low high = rw (le-ltb c 128 low, lt-ltb c 2048 high) refl

pub encode_utf8-three : (c : ℕ) → 2048 ≤ c → c < 65536 → encode_utf8 c ≡ (224 + c / 4096) ∷ (128 + c / 64 % 64) ∷ (128 + c % 64) ∷ []
unfolding encode_utf8
encode_utf8-three c low high =
    let one : 128 ≤ c = omega arith in
    rw (le-ltb c 128 one, le-ltb c 2048 low, lt-ltb c 65536 high) refl

pub length-encode_utf8-two : (c : ℕ) → 128 ≤ c → c < 2048 → length (encode_utf8 c) ≡ 2
length-encode_utf8-two c low high = rw (encode_utf8-two c low high) refl

pub length-encode_utf8-three : (c : ℕ) → 2048 ≤ c → c < 65536 → length (encode_utf8 c) ≡ 3
length-encode_utf8-three c low high = rw (encode_utf8-three c low high) refl

pub length-encode_utf8-four : (c : ℕ) → 65536 ≤ c → length (encode_utf8 c) ≡ 4
length-encode_utf8-four c low = rw (encode_utf8-four c low) refl

pub ruleset four_bytes = (encode_utf8-four, length-encode_utf8-four)

pub ruleset unit_widths = (encode_utf8-two, encode_utf8-three, length-encode_utf8-two, length-encode_utf8-three, encode_ascii)

-- a unit has one byte, a second from U+0080 on, and a third from U+0800 on
length-encode_utf8-unit : (u : ℕ) (us : List ℕ) → u < 65536
    → length (encode_utf8 u) + count_by (λ v. nat_le 0x80 v) us + count_by (λ v. nat_le 0x800 v) us
    ≡ 1 + count_by (λ v. nat_le 0x80 v) (u ∷ us) + count_by (λ v. nat_le 0x800 v) (u ∷ us)
length-encode_utf8-unit u us small =
    elim (cases_lt u 128) [
      | inl low ↦ let one = encode_ascii u low in grind (arith, common_steps)
      | inr high ↦
          elim (cases_lt u 2048) [
            | inl low ↦ let two = length-encode_utf8-two u high low in grind (arith, common_steps)
            | inr higher ↦ let three = length-encode_utf8-three u higher small in grind (arith, common_steps)
          ]
    ]

pub length-encode_utf8_all : (us : List ℕ) → ((k : ℕ) → get_or us k 0 < 65536)
    → length (encode_utf8_all us) ≡ length us + count_by (λ v. nat_le 0x80 v) us + count_by (λ v. nat_le 0x800 v) us
length-encode_utf8_all [] small = refl
length-encode_utf8_all (u ∷ us) small =
    let first = length-encode_utf8-unit u us (small 0) in
    let others = length-encode_utf8_all us (λ k. small (suc k)) in
    omega (arith, first, others, length-append (encode_utf8 u) (encode_utf8_all us))

-- a prefix of units has no more bytes than all
pub length-encode_utf8_all-take : (n : ℕ) (us : List ℕ) → length (encode_utf8_all (take n us)) ≤ length (encode_utf8_all us)
length-encode_utf8_all-take zero us = omega arith
length-encode_utf8_all-take (suc n) [] = omega arith
length-encode_utf8_all-take (suc n) (u ∷ us) =
    let others = length-encode_utf8_all-take n us in
    omega (arith, others, length-append (encode_utf8 u) (encode_utf8_all (take n us)), length-append (encode_utf8 u) (encode_utf8_all us))

-- units have at most three bytes each
pub length-encode_utf8_all-le : (us : List ℕ) → ((k : ℕ) → get_or us k 0 < 65536) → length (encode_utf8_all us) ≤ 3 * length us
length-encode_utf8_all-le us small =
    omega (arith, length-encode_utf8_all us small, count_by-le-length (λ v. nat_le 0x80 v) us, count_by-le-length (λ v. nat_le 0x800 v) us)

-- a byte inside of a character
abbrev IsInside : ℕ → Type 0
IsInside b = (128 ≤ b) × (b < 192)

-- a byte with which a character begins: of ASCII, of the rest of Latin-1, of the other characters of
-- UCS-2, and of all others
abbrev Begins : ℕ → ℕ → Type 0
Begins c b = (c < 128) × (b ≡ c) ⊎ (128 ≤ c) × (c < 256) × (192 ≤ b) × (b < 196) ⊎ (256 ≤ c) × (c < 65536) × (196 ≤ b) × (b < 240) ⊎ (65536 ≤ c) × (240 ≤ b)

-- one byte more inside
inside : (b : ℕ) (bs : List ℕ) → 128 ≤ b → b < 192 → All IsInside bs → All IsInside (b ∷ bs)
inside b bs low high others = All-cons IsInside b bs (low, high) others

-- the bytes of a character: one with which it begins, and those inside of it
bytes_of : (c : ℕ) → (b : ℕ) × (bs : List ℕ) × (encode_utf8 c ≡ b ∷ bs) × Begins c b × All IsInside bs
bytes_of c =
    let last = 128 + c % 64 in
    let third = 128 + c / 64 % 64 in
    let second = 128 + c / 4096 % 64 in
    let one : All IsInside (last ∷ []) = inside last [] (omega arith) (omega arith) (All-nil IsInside) in
    let two : All IsInside (third ∷ last ∷ []) = inside third (last ∷ []) (omega arith) (omega arith) one in
    let three : All IsInside (second ∷ third ∷ last ∷ []) = inside second (third ∷ last ∷ []) (omega arith) (omega arith) two in
    elim (cases_lt c 128) [
      | inl low ↦ (c, [], encode_ascii c low, inl (low, refl), All-nil IsInside)
      | inr high ↦
          elim (cases_lt c 2048) [
            | inl low ↦
                let is : Begins c (192 + c / 64) = elim (cases_lt c 256) [
                  | inl latin1 ↦ inr (inl (omega arith))
                  | inr beyond ↦ inr (inr (inl (omega arith)))
                ] in
                (192 + c / 64, last ∷ [], encode_utf8-two c high low, is, one)
            | inr higher ↦
                elim (cases_lt c 65536) [
                  | inl low ↦ (224 + c / 4096, third ∷ last ∷ [], encode_utf8-three c higher low, inr (inr (inl (omega arith))), two)
                  | inr highest ↦ (240 + c / 262144, second ∷ third ∷ last ∷ [], encode_utf8-four c highest, inr (inr (inr (omega arith))), three)
                ]
          ]
    ]

-- a property of bytes that those inside of characters have, and a property of characters that says the same
module _ (P Q : ℕ → Type 0) (within : (b : ℕ) → IsInside b → P b) (same : (c b : ℕ) → Begins c b → P b ↔ Q c) where
  -- of all characters
  each_encoded : (cs : List ℕ) → All P (encodes cs) ↔ All Q cs
  each_encoded [] = (λ _. All-nil Q, λ _. All-nil P)
  each_encoded (c ∷ cs) =
      let of_c = bytes_of c in
      let b = of_c.0 in
      let bs = of_c.1 in
      let split : encodes (c ∷ cs) ≡ b ∷ (bs ++ encodes cs) = ap (λ (front : List ℕ). front ++ encodes cs) of_c.2 in
      let one = same c b of_c.3 in
      let others = each_encoded cs in (
        λ all.
            let read : All P (b ∷ (bs ++ encodes cs)) = subst (All P) split all in
            let rest : All P (encodes cs) = subst (All P) (drop-append_seam bs (encodes cs)) (All-drop P (length bs) _ (All-tail P b _ read)) in
            All-cons Q c cs (one.0 (All-head P b _ read)) (others.0 rest),
        λ all.
            subst (All P) (sym split)
            (All-cons P b _ (one.1 (All-head Q c cs all))
            (All-append P bs (encodes cs) (All-weaker IsInside P within bs of_c.4) (others.1 (All-tail Q c cs all)))),
      )

  -- and of a text
  pub each_byte : (bs : List ℕ) → IsUtf8 bs → All P bs ↔ All Q (chars bs)
  each_byte bs utf8 = subst (λ (all : List ℕ). All P all ↔ All Q (chars bs)) (encodes-chars bs utf8) (each_encoded (chars bs))

latin1_same : (c b : ℕ) → Begins c b → (b < 196) ↔ (c ≤ 0xff)
latin1_same c b (inl h) = (λ p. omega (arith, h), λ p. omega (arith, h))
latin1_same c b (inr (inl h)) = (λ p. omega (arith, h), λ p. omega (arith, h))
latin1_same c b (inr (inr (inl h))) = (λ p. absurd (omega (arith, h, p)), λ p. absurd (omega (arith, h, p)))
latin1_same c b (inr (inr (inr h))) = (λ p. absurd (omega (arith, h, p)), λ p. absurd (omega (arith, h, p)))

-- a text is one of Latin-1 exactly where no byte begins a character beyond it
pub latin1_bytes : (bs : List ℕ) → IsUtf8 bs → (list_any is_beyond_latin1_byte bs ≡ false) ↔ IsLatin1 (chars bs)
latin1_bytes bs utf8 =
    let bytes = none_passes-is is_beyond_latin1_byte (λ b. b < 196) (λ b. (λ below. grind (arith, common_steps), λ below. grind (arith, common_steps))) bs in
    let text = each_byte (λ b. b < 196) (λ c. c ≤ 0xff) (λ b is. omega (arith, is)) latin1_same bs utf8 in
    (λ none. text.0 (bytes.0 none), λ are. bytes.1 (text.1 are))

nul_same : (c b : ℕ) → Begins c b → (b ≢ 0) ↔ (c ≢ 0)
nul_same c b (inl h) = (λ p. λ e. p (omega (arith, h, e)), λ p. λ e. p (omega (arith, h, e)))
nul_same c b (inr (inl h)) = (λ p. λ e. omega (arith, h, e), λ p. λ e. omega (arith, h, e))
nul_same c b (inr (inr (inl h))) = (λ p. λ e. omega (arith, h, e), λ p. λ e. omega (arith, h, e))
nul_same c b (inr (inr (inr h))) = (λ p. λ e. omega (arith, h, e), λ p. λ e. omega (arith, h, e))

-- no character of a text is NUL exactly where no byte is zero
pub no_zero_bytes : (bs : List ℕ) → IsUtf8 bs → (list_any is_nul bs ≡ false) ↔ All (λ c. c ≢ 0) (chars bs)
no_zero_bytes bs utf8 =
    let text = each_byte (λ b. b ≢ 0) (λ c. c ≢ 0) (λ b is. λ zero_byte. omega (arith, is, zero_byte)) nul_same bs utf8 in
    (λ none. text.0 ((none_is_nul bs).0 none), λ are. (none_is_nul bs).1 (text.1 are))

accepted-find : (cs : List ℕ) → find is_deciding_char cs ≡ None → All IsAcceptedChar cs
accepted-find [] none = All-nil IsAcceptedChar
accepted-find (c ∷ cs) none =
    let other : is_deciding_char c ≡ false = grind (arith, common_steps) in
    let rest : find is_deciding_char cs ≡ None = grind (arith, common_steps) in
    All-cons IsAcceptedChar c cs (grind (arith, common_steps)) (accepted-find cs rest)

-- a byte with which no character begins that decides
abbrev IsUndecidedByte : ℕ → Type 0
IsUndecidedByte b = (0 < b) × (b < 240)

undecided_same : (c b : ℕ) → Begins c b → IsUndecidedByte b ↔ IsAcceptedChar c
undecided_same c b (inl h) = (λ p. omega (arith, h, p), λ p. omega (arith, h, p))
undecided_same c b (inr (inl h)) = (λ p. omega (arith, h), λ p. omega (arith, h))
undecided_same c b (inr (inr (inl h))) = (λ p. omega (arith, h), λ p. omega (arith, h))
undecided_same c b (inr (inr (inr h))) = (λ p. absurd (omega (arith, h, p)), λ p. absurd (omega (arith, h, p)))

-- no character of a text decides exactly where no byte does
pub undecided_bytes : (bs : List ℕ) → IsUtf8 bs → (list_any is_deciding_byte bs ≡ false) ↔ (find is_deciding_char (chars bs) ≡ None)
undecided_bytes bs utf8 =
    let bytes = none_passes-is is_deciding_byte IsUndecidedByte (λ b. (λ no. grind (arith, common_steps), λ is. grind (arith, common_steps))) bs in
    let text = each_byte IsUndecidedByte IsAcceptedChar (λ b is. omega (arith, is)) undecided_same bs utf8 in
    (λ none. find-accepted (chars bs) (text.0 (bytes.0 none)), λ none. bytes.1 (text.1 (accepted-find (chars bs) none)))

-- what a byte adds to the count of those that begin a character
abbrev starts : ℕ → ℕ
starts b = cond (is_char_start b) 1 0

counted-inside : (bs : List ℕ) → All IsInside bs → count_by is_char_start bs ≡ 0
counted-inside [] are = refl
counted-inside (b ∷ bs) are =
    let first : IsInside b = All-head IsInside b bs are in
    let within : is_char_start b ≡ false = grind (arith, common_steps) in
    let others = counted-inside bs (All-tail IsInside b bs are) in
    omega (arith, sum_by-cons starts b bs, others, ap {B = ℕ} (λ t. cond t 1 0) within)

begins_char : (c b : ℕ) → Begins c b → is_char_start b ≡ true
begins_char c b (inl h) = let low : b < 128 = omega (arith, h) in grind (arith, common_steps)
begins_char c b (inr (inl h)) = let high : 192 ≤ b = omega (arith, h) in grind (arith, common_steps)
begins_char c b (inr (inr (inl h))) = let high : 192 ≤ b = omega (arith, h) in grind (arith, common_steps)
begins_char c b (inr (inr (inr h))) = let high : 192 ≤ b = omega (arith, h) in grind (arith, common_steps)

counted-encodes : (cs : List ℕ) → count_by is_char_start (encodes cs) ≡ length cs
counted-encodes [] = refl
counted-encodes (c ∷ cs) =
    let of_c = bytes_of c in
    let b = of_c.0 in
    let is = of_c.3 in
    let start : is_char_start b ≡ true = begins_char c b is in
    let one : count_by is_char_start (encode_utf8 c) ≡ 1 =
    ap (count_by is_char_start) of_c.2
    ∙ omega (arith, sum_by-cons starts b of_c.1, counted-inside of_c.1 of_c.4, ap {B = ℕ} (λ t. cond t 1 0) start) in
    omega (arith, sum_by-append starts (encode_utf8 c) (encodes cs), one, counted-encodes cs)

-- a text has as many characters as bytes that begin one
pub counted_chars : (bs : List ℕ) → IsUtf8 bs → count_by is_char_start bs ≡ length (chars bs)
counted_chars bs utf8 = ap (count_by is_char_start) (sym (encodes-chars bs utf8)) ∙ counted-encodes (chars bs)
