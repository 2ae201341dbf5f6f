-- Texts that are judged character by character, before they are written.
use Rattle.std.proofs.Common.{◌≡◌, ℕ, ◌+◌, ◌<◌, ◌≤◌, ◌∙◌, ap, sym, refl, false, true, List, [], ◌∷◌, Option, None, Some, length, arith}
use Rattle.std.proofs.lemmas.Grind.{common_steps}
use Rattle.std.proofs.lemmas.List.{length-append}
use Rattle.std.specs.List.{find, position_or_len}
use Rattle.uefi_text.specs.FromStr.{is_deciding_char}
use Rattle.uefi_text.specs.UnalignedCStr16.{with_prefix}
use Rattle.uefi_text.specs.Units.{nul_terminated}
use Rattle.nardcorbel.specs.Outcomes.{room_reason}
use Rattle.nardcorbel.specs.Reasons.{character_reason}

-- a NUL comes first
pub nul_found : (cs rest : List ℕ) (c : ℕ) → cs ≡ c ∷ rest → c ≡ 0
    → (3 ≡ character_reason (find is_deciding_char cs)) × (position_or_len is_deciding_char cs ≡ 0)
nul_found cs rest c e nul =
    let whole : cs ≡ 0 ∷ rest = e ∙ ap (λ (k : ℕ). k ∷ rest) nul in
    (rw whole refl, rw whole refl)

-- a character that is no unit comes first
pub high_found : (cs rest : List ℕ) (c : ℕ) → cs ≡ c ∷ rest → 0xffff < c
    → (2 ≡ character_reason (find is_deciding_char cs)) × (position_or_len is_deciding_char cs ≡ 0)
high_found cs rest c e high =
    let deciding : is_deciding_char c ≡ true = grind (arith, common_steps) in
    let found : find is_deciding_char (c ∷ rest) ≡ Some c = grind (arith, common_steps, deciding) in (
      sym (ap character_reason (ap (find is_deciding_char) e ∙ found) ∙ reason),
      ap (position_or_len is_deciding_char) e ∙ grind (arith, common_steps, deciding),
    )
  where
    reason : character_reason (Some c) ≡ 2
    reason = grind (arith, common_steps)

-- another character comes first
pub passed : (cs rest : List ℕ) (c : ℕ) → cs ≡ c ∷ rest → 0 < c → c ≤ 0xffff
    → (find is_deciding_char rest ≡ find is_deciding_char cs) × (position_or_len is_deciding_char cs ≡ 1 + position_or_len is_deciding_char rest)
passed cs rest c e some low =
    let other : is_deciding_char c ≡ false = grind (arith, common_steps) in (
      sym (ap (find is_deciding_char) e ∙ grind (arith, common_steps, other)),
      ap (position_or_len is_deciding_char) e ∙ grind (arith, common_steps, other),
    )

-- where no character is refused, all of them are before the first that is
pub all_before : (cs : List ℕ) → find is_deciding_char cs ≡ None → position_or_len is_deciding_char cs ≡ length cs
all_before [] none = refl
all_before (c ∷ cs) none =
    let other : is_deciding_char c ≡ false = grind (arith, common_steps) in
    let rest : find is_deciding_char cs ≡ None = grind (arith, common_steps) in
    let before = all_before cs rest in
    grind (arith, common_steps)

-- a text that is not refused has no such character
pub none_found : (r : Option ℕ) → 0 ≡ character_reason r → r ≡ None
none_found None e = refl
none_found (Some c) e = absurd (grind (arith, common_steps))

-- a text that leaves no place for its NUL is not written
pub no_room : (text buffer : List ℕ) → length buffer ≤ length text
    → (4 ≡ room_reason text buffer) × (buffer ≡ with_prefix (nul_terminated text) buffer)
no_room text buffer full =
    let nul : length (nul_terminated text) ≡ length text + 1 = length-append text (0 ∷ []) in
    let more : length buffer < length (nul_terminated text) = omega (arith, nul, full) in
    (grind (arith, common_steps), grind (arith, common_steps))

-- a text that leaves a place for its NUL is written
pub has_room : (text buffer : List ℕ) → length text < length buffer → room_reason text buffer ≡ 0
has_room text buffer fits = grind (arith, common_steps)

pub ruleset judged = (all_before)
