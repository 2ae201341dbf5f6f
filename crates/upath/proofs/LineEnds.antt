-- Where lines end.
use Rattle.std.proofs.Common.{◌≡◌, ℕ, ◌+◌, ◌++◌, ◌<◌, ◌≤◌, List, [], ◌∷◌, length, get_or, false, take, drop, None, Some, arith, sym, Option, nat_lt, inl, inr}
use Rattle.std.specs.List.{position, position_or_len}
use Rattle.std.proofs.lemmas.Bool.{cases_Bool, ltb-true, false_from_ne_true}
use Rattle.std.proofs.lemmas.Option.{cond_some}
use Rattle.std.proofs.lemmas.Grind.{common_steps}
use Rattle.std.proofs.lemmas.List.Sums.{position_or_len_is}
use Rattle.memchr.specs.Find.{IsFirstByte, Passes, is_byte}
use Rattle.upath.specs.Lines.{is_line_feed, lines_of, IsUnended}

-- where the first line feed stands, or past the last byte
abbrev first_feed : List ℕ → ℕ
first_feed bytes = position_or_len is_line_feed bytes

-- the first line, where a line feed ends it
lines_of-ended : (bytes rest : List ℕ) → first_feed bytes < length bytes → lines_of (bytes ++ rest)
    ≡ take (first_feed bytes) bytes ∷ lines_of (drop (first_feed bytes + 1) bytes ++ rest)
lines_of-ended [] rest h = absurd (omega arith)
lines_of-ended (b ∷ bs) rest h =
    elim (cases_Bool (is_line_feed b)) [
      | inl cut ↦ grind (arith, common_steps)
      | inr other ↦ grind (arith, common_steps, lines_of-ended bs rest)
    ]

-- bytes in which no line ends begin the line that follows them
lines_of-begun : (begun bytes line : List ℕ) (others : List (List ℕ)) → length begun ≤ first_feed begun
    → lines_of bytes ≡ line ∷ others → lines_of (begun ++ bytes) ≡ (begun ++ line) ∷ others
lines_of-begun [] bytes line others h e = e
lines_of-begun (b ∷ bs) bytes line others h e =
    elim (cases_Bool (is_line_feed b)) [
      | inl cut ↦ absurd (grind (arith, common_steps))
      | inr other ↦ grind (arith, common_steps, lines_of-begun bs bytes line others)
    ]

-- the one line, where no line feed ends it
lines_of-unended : (byte : ℕ) (bytes : List ℕ) → length (byte ∷ bytes) ≤ first_feed (byte ∷ bytes)
    → lines_of (byte ∷ bytes) ≡ (byte ∷ bytes) ∷ []
lines_of-unended b [] h =
    elim (cases_Bool (is_line_feed b)) [
      | inl cut ↦ grind (arith, common_steps)
      | inr other ↦ grind (arith, common_steps)
    ]
lines_of-unended b (c ∷ cs) h =
    elim (cases_Bool (is_line_feed b)) [
      | inl cut ↦ grind (arith, common_steps)
      | inr other ↦ grind (arith, common_steps, lines_of-unended c cs)
    ]

-- no line ends in two such parts
first_feed-append : (xs ys : List ℕ) → length xs ≤ first_feed xs → length ys ≤ first_feed ys
    → length (xs ++ ys) ≤ first_feed (xs ++ ys)
first_feed-append [] ys h k = k
first_feed-append (x ∷ xs) ys h k =
    elim (cases_Bool (is_line_feed x)) [
      | inl cut ↦ absurd (grind (arith, common_steps))
      | inr other ↦ grind (arith, common_steps, first_feed-append xs ys)
    ]

first_feed-unended : (bytes : List ℕ) → IsUnended bytes → length bytes ≤ first_feed bytes
first_feed-unended bytes none = grind (arith, common_steps)

unended-first_feed : (bytes : List ℕ) → length bytes ≤ first_feed bytes → IsUnended bytes
unended-first_feed bytes h = grind (arith, common_steps)

pub IsUnended-append : (xs ys : List ℕ) → IsUnended xs → IsUnended ys → IsUnended (xs ++ ys)
IsUnended-append xs ys h k =
    unended-first_feed (xs ++ ys) (first_feed-append xs ys (first_feed-unended xs h) (first_feed-unended ys k))

-- the line that has begun ends at the first line feed of the bytes that follow
pub lines_of-end : (begun bytes rest : List ℕ) (end : ℕ) → IsUnended begun
    → Some end ≡ position is_line_feed bytes → lines_of (begun ++ (bytes ++ rest))
    ≡ (begun ++ take end bytes) ∷ lines_of (drop (end + 1) bytes ++ rest)
lines_of-end begun bytes rest end none e =
    let first = first_feed bytes in
    let at = cond_some (nat_lt first (length bytes)) first end (sym e) in
    let inside : first < length bytes = ltb-true _ _ at.0 in
    rw (← at.1) (lines_of-begun begun (bytes ++ rest) _ _ (first_feed-unended begun none) (lines_of-ended bytes rest inside))

-- bytes in which no line ends are one line
pub lines_of-last : (byte : ℕ) (bytes : List ℕ) → IsUnended (byte ∷ bytes)
    → lines_of (byte ∷ bytes) ≡ (byte ∷ bytes) ∷ []
lines_of-last byte bytes none = lines_of-unended byte bytes (first_feed-unended (byte ∷ bytes) none)

no_line_feed : (bytes : List ℕ) (k : ℕ) → (Passes (is_byte 10) bytes k → ⊥)
    → is_line_feed (get_or bytes k 0) ≡ false
no_line_feed bytes k none = false_from_ne_true (is_line_feed (get_or bytes k 0)) none

-- the first byte 10 is the first line feed
pub position-IsFirstByte : (bytes : List ℕ) (end : Option ℕ)
    → IsFirstByte (is_byte 10) bytes end → end ≡ position is_line_feed bytes
position-IsFirstByte bytes None none =
    let e : position_or_len is_line_feed bytes ≡ length bytes =
    position_or_len_is is_line_feed bytes (length bytes) 0 (omega arith)
    (λ k h. no_line_feed bytes k (none k (omega arith) h)) (λ h. absurd (omega (arith, h))) in
    grind (arith, common_steps)
position-IsFirstByte bytes (Some place) found =
    let e : position_or_len is_line_feed bytes ≡ place =
    position_or_len_is is_line_feed bytes place 0 (omega (arith, found.0.high))
    (λ k h. no_line_feed bytes k (found.0.before k (omega arith) h)) (λ _. found.1) in
    let inside : place < length bytes = found.0.high in
    grind (arith, common_steps)
