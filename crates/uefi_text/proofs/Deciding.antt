-- What a constructor takes is a string exactly where the first element that no text holds is a NUL in
-- the last place.
use Rattle.std.proofs.Common.{suc, ◌≡◌, ◌≢◌, ℕ, ◌+◌, ◌-◌, ◌<◌, ◌^◌, ◌∙◌, ap, subst, sym, Bool, true, false, All, List, [], ◌∷◌, ◌++◌, length, get_or, take, Some, None, Option, arith, refl}
use Rattle.std.specs.List.{before_first, position, position_or_len}
use Rattle.std.specs.Option.{unwrap_or}
use Rattle.std.proofs.lemmas.List.Sums.{position_or_len_is}
use Rattle.std.proofs.lemmas.List.Quantifiers.{position-Some}
use Rattle.std.proofs.lemmas.List.Elements.{All-cons, All-from_get_or, All-nil, All-weaker}
use Rattle.std.proofs.lemmas.List.{get_or-take, get_or_append_left, length-take-le, length-append, take_more}
use Rattle.std.proofs.Math.Seq.{get_or-append_seam}
use Rattle.std.proofs.lemmas.Grind.{common_steps}
use Rattle.uefi_text.proofs.Texts.{IsString-made, without_nul-nul_terminated}
use Rattle.uefi_text.specs.FromSliceWithNul.{with_nul_refusal, with_nul_refusal_at, first_nul_refusal}
use Rattle.uefi_text.specs.declared.errors.FromSliceWithNulError.TheVariants.{OutOfMemory}
use Rattle.uefi_text.specs.Latin1.{IsLatin1String}
use Rattle.uefi_text.specs.Units.{IsChar16, IsTextUnit, IsText, IsString, is_nul, is_deciding, deciding_place, nul_terminated, without_nul}

-- a list that ends in 0
ends_in_nul : (units : List ℕ) (i : ℕ) → i + 1 ≡ length units → get_or units i 0 ≡ 0 → units ≡ take i units ++ 0 ∷ []
ends_in_nul units i last zero = grind (arith, common_steps)

-- a test that a NUL passes
module _ (p : ℕ → Bool) (nul : p 0 ≡ true) where
  -- where the first element that passes is a NUL in the last place, none before the NUL passes
  pub undecided_before : (units : List ℕ) (i : ℕ) → position p units ≡ Some i → get_or units i 0 ≡ 0
      → i + 1 ≡ length units
      → (units ≡ nul_terminated (without_nul units)) × All (λ u. p u ≡ false) (without_nul units)
  undecided_before units i place zero last =
      let found = position-Some p units i 0 place in
      let n : length units - 1 ≡ i = omega arith in
      let before : All (λ u. p u ≡ false) (take i units) = All-from_get_or (λ u. p u ≡ false) (take i units) 0 (λ k h.
      let below : k < i = omega (arith, length-take-le i units (omega arith)) in
      rw get_or-take (found.2 k below)) in
      rw n (ends_in_nul units i last zero, before)

  -- and where none before the NUL passes, that is the first that does
  pub position-undecided_before : (units : List ℕ) → units ≡ nul_terminated (without_nul units)
      → All (λ u. p u ≡ false) (without_nul units)
      → (position p units ≡ Some (length (without_nul units))) × (get_or units (length (without_nul units)) 0 ≡ 0)
      × (length (without_nul units) + 1 ≡ length units)
  position-undecided_before units ended undecided =
      let text = without_nul units in
      let n : length units ≡ length text + 1 = ap length ended ∙ length-append text (0 ∷ []) in
      let last : get_or units (length text) 0 ≡ 0 = ap (λ us. get_or us (length text) 0) ended ∙ get_or-append_seam text 0 [] 0 in
      let before : (k : ℕ) → k < length text → p (get_or units k 0) ≡ false =
      λ k h. let same : get_or units k 0 ≡ get_or text k 0 = ap (λ us. get_or us k 0) ended
      ∙ get_or_append_left text (0 ∷ []) 0 k h in rw same (undecided k 0 h) in
      let e : position_or_len p units ≡ length text = position_or_len_is p units (length text) 0 (omega arith) before (λ _. rw last nul) in
      (grind (arith, common_steps), last, omega arith)

-- a unit that decides nothing may stand in a text, and no other may
IsTextUnit-undecided : (u : ℕ) → u < 2 ^ 16 → is_deciding u ≡ false → IsTextUnit u
IsTextUnit-undecided u small undecided = grind (arith, common_steps)

undecided-IsTextUnit : (u : ℕ) → IsTextUnit u → is_deciding u ≡ false
undecided-IsTextUnit u unit = grind (arith, common_steps)

pub IsString-deciding_last : (units : List ℕ) (i : ℕ) → ((k : ℕ) → get_or units k 0 < 2 ^ 16)
    → deciding_place units ≡ Some i → get_or units i 0 ≡ 0 → i + 1 ≡ length units → IsString units
IsString-deciding_last units i small place zero last =
    let before = undecided_before is_deciding refl units i place zero last in
    let text : IsText (without_nul units) = All-from_get_or IsTextUnit (without_nul units) 0 (λ k h.
    let below : k < length units - 1 = omega (arith, length-take-le (length units - 1) units (omega arith)) in
    let same : get_or (without_nul units) k 0 ≡ get_or units k 0 = rw get_or-take refl in
    IsTextUnit-undecided (get_or (without_nul units) k 0) (rw same (small k)) (before.1 k 0 h)) in
    (before.0, text)

-- a string is not refused
pub with_nul_refusal-IsString : (units : List ℕ) → IsString units → with_nul_refusal units ≡ None
with_nul_refusal-IsString units string =
    let found =
    position-undecided_before is_deciding refl units string.0
    (All-weaker IsTextUnit (λ u. is_deciding u ≡ false) undecided-IsTextUnit (without_nul units) string.1) in
    rw found.0 (grind (arith, common_steps))

pub IsLatin1String-nul_last : (bytes : List ℕ) (i : ℕ) → position is_nul bytes ≡ Some i → i + 1 ≡ length bytes → IsLatin1String bytes
IsLatin1String-nul_last bytes i place last =
    let zero : get_or bytes i 0 ≡ 0 = grind (arith, common_steps, (position-Some is_nul bytes i 0 place).1) in
    let before = undecided_before is_nul refl bytes i place zero last in
    (before.0, All-weaker (λ b. is_nul b ≡ false) (λ b. b ≢ 0) (λ b h. λ e. grind (arith, common_steps)) (without_nul bytes) before.1)

pub first_nul_refusal-IsLatin1String : (bytes : List ℕ) → IsLatin1String bytes → first_nul_refusal bytes ≡ None
first_nul_refusal-IsLatin1String bytes string =
    let found =
    position-undecided_before is_nul refl bytes string.0
    (All-weaker (λ b. b ≢ 0) (λ b. is_nul b ≡ false) (λ b h. grind (arith, common_steps)) (without_nul bytes) string.1) in
    rw found.0 (grind (arith, common_steps))

-- what stands before a deciding place is a text
pub IsText-none : (units : List ℕ) → ((k : ℕ) → get_or units k 0 < 2 ^ 16) → deciding_place units ≡ None → IsText units
IsText-none [] small none = All-nil IsTextUnit
IsText-none (u ∷ us) small none =
    let other : is_deciding u ≡ false = grind (arith, common_steps) in
    let rest : deciding_place us ≡ None = grind (arith, common_steps) in
    All-cons IsTextUnit u us (IsTextUnit-undecided u (small 0) other) (IsText-none us (λ k. small (suc k)) rest)

pub IsText-before : (units : List ℕ) (i : ℕ) → ((k : ℕ) → get_or units k 0 < 2 ^ 16) → deciding_place units ≡ Some i → IsText (take i units)
IsText-before units i small place =
    let found = position-Some is_deciding units i 0 place in
    All-from_get_or IsTextUnit (take i units) 0 (λ k h.
    let below : k < i = omega (arith, length-take-le i units (omega (arith, found.0))) in
    rw get_or-take (IsTextUnit-undecided (get_or units k 0) (small k) (found.2 k below)))

-- units up to and with the first NUL are a string, where no surrogate stands before it
pub IsString-until_nul : (units : List ℕ) (i : ℕ) → ((k : ℕ) → get_or units k 0 < 2 ^ 16)
    → deciding_place units ≡ Some i → get_or units i 0 ≡ 0 → IsString (take (i + 1) units)
IsString-until_nul units i small place zero =
    let found = position-Some is_deciding units i 0 place in
    let ended : take (i + 1) units ≡ nul_terminated (take i units) = take_more units i 0 found.0 ∙ ap (λ u. take i units ++ u ∷ []) zero in
    IsString-made (take (i + 1) units) (take i units) ended (IsText-before units i small place)

-- and their text is what stands before the first NUL
pub before_nul-deciding : (units : List ℕ) (i : ℕ) → deciding_place units ≡ Some i → get_or units i 0 ≡ 0
    → without_nul (take (i + 1) units) ≡ before_first is_nul units
before_nul-deciding units i place zero =
    let found = position-Some is_deciding units i 0 place in
    let undecided : (k : ℕ) → k < i → is_nul (get_or units k 0) ≡ false = λ k h. let f = found.2 k h in grind (arith, common_steps) in
    let e : position_or_len is_nul units ≡ i = position_or_len_is is_nul units i 0 (omega (arith, found.0)) undecided (λ _. rw zero refl) in
    let ended : take (i + 1) units ≡ nul_terminated (take i units) = take_more units i 0 found.0 ∙ ap (λ u. take i units ++ u ∷ []) zero in
    ap without_nul ended ∙ without_nul-nul_terminated (take i units) ∙ ap (λ n. take n units) (sym e)

-- a character that is no NUL may stand in a text
IsTextUnit-character : (u : ℕ) → IsChar16 u → is_nul u ≡ false → IsTextUnit u
IsTextUnit-character u character no_nul = grind (arith, common_steps)

-- characters up to and with their first NUL are a string
pub IsString-characters : (characters : List ℕ) (i : ℕ) → position is_nul characters ≡ Some i
    → All IsChar16 (take (i + 1) characters) → IsString (take (i + 1) characters)
IsString-characters characters i place are_characters =
    let found = position-Some is_nul characters i 0 place in
    let zero : get_or characters i 0 ≡ 0 = grind (arith, common_steps, found.1) in
    let ended : take (i + 1) characters ≡ nul_terminated (take i characters) = take_more characters i 0 found.0 ∙ ap (λ u. take i characters ++ u ∷ []) zero in
    let text : IsText (take i characters) = All-from_get_or IsTextUnit (take i characters) 0 (λ k h.
    let below : k < i = omega (arith, length-take-le i characters (omega (arith, found.0))) in
    let inside : k < length (take (i + 1) characters) = omega (arith, below, length-take-le (i + 1) characters (omega (arith, found.0))) in
    let same : get_or (take (i + 1) characters) k 0 ≡ get_or characters k 0 = get_or-take (i + 1) characters k 0 (omega (arith, below)) in
    let character : IsChar16 (get_or characters k 0) = subst IsChar16 same (are_characters k 0 inside) in
    rw get_or-take (IsTextUnit-character (get_or characters k 0) character (found.2 k below))) in
    IsString-made (take (i + 1) characters) (take i characters) ended text

-- units that are not refused are a string
pub IsString-accepted : (units : List ℕ) → ((k : ℕ) → get_or units k 0 < 2 ^ 16) → with_nul_refusal units ≡ None → IsString units
IsString-accepted units small accepted = go (deciding_place units) refl accepted
  where
    go : (o : Option ℕ) → deciding_place units ≡ o → with_nul_refusal_at units o ≡ None → IsString units
    go None e a = cc
    go (Some i) e a =
        let zero : get_or units i 0 ≡ 0 = grind (arith, common_steps) in
        let last : i + 1 ≡ length units = grind (arith, common_steps) in
        IsString-deciding_last units i small e zero last

-- units themselves are never refused as out of memory
pub with_nul_refusal-memory : (units : List ℕ) → OutOfMemory ≡ unwrap_or (with_nul_refusal units) OutOfMemory
    → with_nul_refusal units ≡ None
with_nul_refusal-memory units want = go (deciding_place units) want
  where
    go : (o : Option ℕ) → OutOfMemory ≡ unwrap_or (with_nul_refusal_at units o) OutOfMemory → with_nul_refusal_at units o ≡ None
    go None w = cc
    go (Some i) w = grind (arith, common_steps)
