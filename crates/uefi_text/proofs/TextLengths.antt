-- How long texts of many parts are, and how many code units a text has.
use Rattle.std.proofs.Common.{ℕ, ◌*◌, ◌≤◌, List, [], ◌∷◌, length, length-append, ap, arith}
use Rattle.std.proofs.lemmas.Grind.{common_steps}
use Rattle.std.proofs.lemmas.List.Elements.{All-head, All-tail}
use Rattle.std.proofs.lemmas.Str.{encodes-chars, length-encode}
use Rattle.std.specs.Char.Escape.{encode_utf16}
use Rattle.std.specs.List.{flat_map}
use Rattle.std.specs.Prelude.{All, encode_utf8}
use Rattle.std.specs.Str.{chars, encode_utf8_all, IsUtf8}
use Rattle.uefi_text.specs.UnitTexts.{utf16_units}

-- parts of at most this many elements each
pub flat_within : {X : Type 0} (P : X → Type 0) (part : X → List ℕ) (most : ℕ) → ((x : X) → P x → length (part x) ≤ most)
    → (xs : List X) → All P xs → length (flat_map part xs) ≤ most * length xs
flat_within P part most each [] all = omega arith
flat_within P part most each (x ∷ xs) all = omega (
  arith,
  length-append (part x) (flat_map part xs),
  each x (All-head P x xs all),
  flat_within P part most each xs (All-tail P x xs all),
)

-- a character has no more code units than bytes
char_units : (c : ℕ) → length (encode_utf16 c) ≤ length (encode_utf8 c)
char_units c = let bytes = length-encode c in grind (arith, common_steps)

chars_units : (cs : List ℕ) → length (flat_map encode_utf16 cs) ≤ length (encode_utf8_all cs)
chars_units [] = omega arith
chars_units (c ∷ cs) = omega (
  arith,
  char_units c,
  chars_units cs,
  length-append (encode_utf16 c) (flat_map encode_utf16 cs),
  length-append (encode_utf8 c) (encode_utf8_all cs),
)

-- a text has no more code units than bytes
pub units_within : (text : List ℕ) → IsUtf8 text → length (utf16_units text) ≤ length text
unfolding utf16_units
units_within text utf8 = omega (arith, chars_units (chars text), ap length (encodes-chars text utf8))
