-- Texts, as characters and as code units, and the strings that they are stored as.
use Rattle.std.proofs.Common.{Bool, false, ◌≡◌, ◌↔◌, ℕ, ◌-◌, ◌≤◌, ◌≢◌, true, false, List, [], ◌∷◌, ◌++◌, length, map, None, Option, Some, All, arith, sym, ◌∙◌, ap, refl, subst, ◌==◌, if◌then◌else◌, set, append_assoc, take, drop}
use Rattle.std.specs.List.{find}
use Rattle.std.specs.Option.{SomeIff}
use Rattle.std.specs.Str.{chars, IsUtf8}
use Rattle.std.specs.Prelude.{encode_utf8}
use Rattle.std.proofs.lemmas.Str.{chars-nil, chars_past_char, encodes-chars, length-le-encodes}
use Rattle.std.proofs.lemmas.List.{length-append, map-append, nil_from_length, set_at, drop-append-le, take-append-le}
use Rattle.std.proofs.Math.Seq.{take-append_seam}
use Rattle.std.proofs.lemmas.List.Elements.{All-append, All-cons, All-drop, All-head, All-map, All-nil, All-tail, All-take, All-weaker}
use Rattle.std.proofs.Math.Utf8.{scalar, scalars, scalar_cases}
use Rattle.std.proofs.lemmas.Grind.{common_steps}
use Rattle.uefi_text.specs.Units.{replaced, IsText, IsTextUnit, IsString, nul_terminated, without_nul}
use Rattle.std.specs.Char.{IsScalar}
use Rattle.uefi_text.specs.FromStr.{from_str_refusal, is_deciding_char, refusal_of_char}

-- where nothing is found among all elements, none of them passes
find-none_at : (p : ℕ → Bool) (xs : List ℕ) (y : ℕ) (ys : List ℕ) → find p (xs ++ y ∷ ys) ≡ None → p y ≡ false
find-none_at p [] y ys none = grind (arith, common_steps)
find-none_at p (x ∷ xs) y ys none = let rest : find p (xs ++ y ∷ ys) ≡ None = grind (arith, common_steps) in find-none_at p xs y ys rest

-- one more character was read
pub chars_step : (read rest new_rest : List ℕ) (c : ℕ) (all : List ℕ) → IsUtf8 rest → rest ≡ encode_utf8 c ++ new_rest
    → read ++ chars rest ≡ all → (read ++ c ∷ []) ++ chars new_rest ≡ all
chars_step read rest new_rest c all utf8 e so_far =
    let f = chars_past_char rest new_rest c utf8 e in grind (arith, common_steps)

-- and after the last, all were
pub chars_end : (read rest all : List ℕ) → length rest ≡ 0 → read ++ chars rest ≡ all → read ≡ all
chars_end read rest all none so_far =
    let end : chars rest ≡ [] = ap chars (nil_from_length rest none) ∙ chars-nil in
    grind (arith, common_steps)

-- where none of all is refused, each that was read is a code unit
pub char_fits : (read rest new_rest : List ℕ) (c : ℕ) (all : List ℕ) → IsUtf8 rest → rest ≡ encode_utf8 c ++ new_rest
    → read ++ chars rest ≡ all → find is_deciding_char all ≡ None → c ≤ 0xffff
char_fits read rest new_rest c all utf8 e so_far none =
    let here : find is_deciding_char (read ++ c ∷ chars new_rest) ≡ None =
    ap (λ cs. find is_deciding_char (read ++ cs)) (sym (chars_past_char rest new_rest c utf8 e)) ∙ ap (find is_deciding_char) so_far ∙ none in
    let undecided = find-none_at is_deciding_char read c (chars new_rest) here in
    grind (arith, common_steps)

pub without_nul-nul_terminated : (text : List ℕ) → without_nul (nul_terminated text) ≡ text
without_nul-nul_terminated text =
    let n : length (text ++ 0 ∷ []) - 1 ≡ length text = omega (arith, length-append text (0 ∷ [])) in
    rw n (take-append_seam text (0 ∷ []))

-- a text and a NUL are a string
pub IsString-nul_terminated : (text : List ℕ) → IsText text → IsString (nul_terminated text)
IsString-nul_terminated text is_text = rw (without_nul-nul_terminated text) (refl, is_text)

-- units that were made of a text and a NUL are a string
pub IsString-made : (units text : List ℕ) → units ≡ nul_terminated text → IsText text → IsString units
IsString-made units text e is_text = subst IsString (sym e) (IsString-nul_terminated text is_text)

-- a unit is written where the NUL stood, before a new one
pub nul_terminated-push : (text : List ℕ) (unit : ℕ)
    → set (nul_terminated text ++ 0 ∷ []) (length text) unit ≡ nul_terminated (text ++ unit ∷ [])
nul_terminated-push text unit = rw (append_assoc text, append_assoc text) (set_at text 0 (0 ∷ []) unit (length text) refl)

-- what a unit of a text makes of a string there is one
pub IsString-pushed : (old units : List ℕ) (end unit : ℕ) → IsString old → IsTextUnit unit
    → units ≡ old ++ 0 ∷ [] → end ≡ length (without_nul old) → IsString (set units end unit)
IsString-pushed old units end unit string is_unit grown at_end =
    let text = without_nul old in
    let written : set units end unit ≡ nul_terminated (text ++ unit ∷ []) = rw (grown ∙ ap (λ us. us ++ 0 ∷ []) string.0, at_end) (nul_terminated-push text unit) in
    IsString-made _ (text ++ unit ∷ []) written
    (All-append IsTextUnit text (unit ∷ []) string.1 (All-cons IsTextUnit unit [] is_unit (All-nil IsTextUnit)))

-- a unit of a text stays one where another takes its place
pub IsTextUnit-replaced : (search replace u : ℕ) → IsTextUnit u → IsTextUnit replace → IsTextUnit (replaced search replace u)
IsTextUnit-replaced search replace u old new = elim (u == search) as (λ b. IsTextUnit (if b then replace else u)) [ true ↦ new | false ↦ old ]

-- a text in which a character takes the place of another is a text
pub IsText-replaced : (search replace : ℕ) (text : List ℕ) → IsText text → IsTextUnit replace → IsText (map (replaced search replace) text)
IsText-replaced search replace text is_text unit =
    All-map IsTextUnit (replaced search replace) text
    (All-weaker IsTextUnit (λ u. IsTextUnit (replaced search replace u)) (λ u h. IsTextUnit-replaced search replace u h unit) text is_text)

replaced-nul : (search replace : ℕ) → search ≢ 0 → replaced search replace 0 ≡ 0
replaced-nul search replace no_nul = grind (arith, common_steps)

-- what stands before the NUL is written, and the NUL stays
nul_terminated-replaced : (search replace : ℕ) (text : List ℕ) → search ≢ 0
    → map (replaced search replace) (nul_terminated text) ≡ nul_terminated (map (replaced search replace) text)
nul_terminated-replaced search replace text no_nul =
    map-append (replaced search replace) text (0 ∷ []) ∙ ap (λ u. map (replaced search replace) text ++ u ∷ []) (replaced-nul search replace no_nul)

-- and so does a string, also where what stands before a place stays
pub IsString-replaced_from : (search replace start : ℕ) (units : List ℕ) → IsString units
    → start ≤ length (without_nul units) → search ≢ 0 → IsTextUnit replace
    → IsString (take start units ++ map (replaced search replace) (drop start units))
IsString-replaced_from search replace start units string inside no_nul unit =
    let text = without_nul units in
    let front : take start units ≡ take start text = ap (take start) string.0 ∙ take-append-le start text (0 ∷ []) inside in
    let back : drop start units ≡ nul_terminated (drop start text) = ap (drop start) string.0 ∙ drop-append-le start text (0 ∷ []) inside in
    let made : take start units ++ map (replaced search replace) (drop start units)
    ≡ nul_terminated (take start text ++ map (replaced search replace) (drop start text)) =
    rw (front, back, nul_terminated-replaced search replace (drop start text) no_nul) (sym (append_assoc (take start text) _ _)) in
    IsString-made _ _ made
    (All-append IsTextUnit (take start text) _ (All-take IsTextUnit start text string.1) (IsText-replaced search replace (drop start text) (All-drop IsTextUnit start text string.1) unit))

-- a character that is not refused is a unit of a text
IsTextUnit-char : (c : ℕ) → scalar c ≡ true → is_deciding_char c ≡ false → IsTextUnit c
IsTextUnit-char c is_scalar undecided = let s = scalar_cases c is_scalar in grind (arith, common_steps)

-- characters of which none is refused are a text
pub IsText-chars : (cs : List ℕ) → scalars cs ≡ true → find is_deciding_char cs ≡ None → IsText cs
IsText-chars [] are_scalars none = All-nil IsTextUnit
IsText-chars (c ∷ cs) are_scalars none =
    let first : scalar c ≡ true = grind (arith, common_steps) in
    let others : scalars cs ≡ true = grind (arith, common_steps) in
    let undecided : is_deciding_char c ≡ false = grind (arith, common_steps) in
    let rest : find is_deciding_char cs ≡ None = grind (arith, common_steps) in
    All-cons IsTextUnit c cs (IsTextUnit-char c first undecided) (IsText-chars cs others rest)

-- a unit of a text is a character
scalar-IsTextUnit : (u : ℕ) → IsTextUnit u → scalar u ≡ true
scalar-IsTextUnit u unit = grind (arith, common_steps)

pub scalars-IsText : (text : List ℕ) → IsText text → scalars text ≡ true
scalars-IsText [] is_text = refl
scalars-IsText (u ∷ us) is_text =
    let first = scalar-IsTextUnit u (All-head IsTextUnit u us is_text) in
    let others = scalars-IsText us (All-tail IsTextUnit u us is_text) in
    grind (arith, common_steps)

-- and so is each of its units
pub characters-IsText : (text : List ℕ) → IsText text → All IsScalar text
characters-IsText text is_text = All-weaker IsTextUnit IsScalar scalar-IsTextUnit text is_text

pub scalars-All : (cs : List ℕ) → All IsScalar cs → scalars cs ≡ true
scalars-All [] are_scalars = refl
scalars-All (c ∷ cs) are_scalars =
    let first : scalar c ≡ true = All-head IsScalar c cs are_scalars in
    let others = scalars-All cs (All-tail IsScalar c cs are_scalars) in
    grind (arith, common_steps)

pub undecided-IsText : (text : List ℕ) → IsText text → find is_deciding_char text ≡ None
undecided-IsText [] is_text = refl
undecided-IsText (u ∷ us) is_text =
    let first : IsTextUnit u = All-head IsTextUnit u us is_text in
    let others = undecided-IsText us (All-tail IsTextUnit u us is_text) in
    let undecided : is_deciding_char u ≡ false = grind (arith, common_steps) in
    grind (arith, common_steps)

pub unrefused-find : (found : Option ℕ) → refusal_of_char found ≡ None → found ≡ None
unrefused-find None none = refl
unrefused-find (Some c) none = absurd (grind (arith, common_steps))

pub unrefused-IsText : (text : List ℕ) → IsText text → from_str_refusal text ≡ None
unrefused-IsText text is_text = ap refusal_of_char (undecided-IsText text is_text)

-- characters are a text exactly where none of them is refused
pub IsText-unrefused : (cs : List ℕ) → All IsScalar cs → IsText cs ↔ (from_str_refusal cs ≡ None)
IsText-unrefused cs are_scalars = (
  unrefused-IsText cs,
  λ none. IsText-chars cs (scalars-All cs are_scalars) (unrefused-find (find is_deciding_char cs) none),
)

-- a text has no more characters than bytes
pub length-chars : (bs : List ℕ) → IsUtf8 bs → length (chars bs) ≤ length bs
length-chars bs utf8 = omega (arith, length-le-encodes (chars bs), ap length (encodes-chars bs utf8))

-- a value where one condition holds is one where another does that says the same
pub SomeIff-same : {P Q : Type 0} (found : Option ℕ) (n m : ℕ) → P ↔ Q → n ≡ m → SomeIff found P n → SomeIff found Q m
SomeIff-same None n m same is none = λ q. none (same.1 q)
SomeIff-same (Some k) n m same is some = (same.0 some.0, some.1 ∙ is)
