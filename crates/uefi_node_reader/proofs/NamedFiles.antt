-- Names of files are read back.
use Rattle.std.proofs.Common.{◌≡◌, ◌≢◌, ℕ, ◌+◌, ◌-◌, ◌/◌, ◌%◌, ◌*◌, ◌^◌, ◌<◌, ◌≤◌, Bool, true, false, cond, eqb, leb, ltb, min, not, ◌&&◌, List, [], ◌∷◌, ◌++◌, length, take, drop, slice_index, refl, ap, sym, subst, ◌∙◌, arith, ◌⊎◌, true≢false}
use Rattle.std.specs.Prelude.{Some}
use Rattle.std.specs.Option.{unwrap_or}
use Rattle.std.specs.Char.Escape.{encode_utf16}
use Rattle.std.specs.Char.Utf16.{is_high_surrogate, is_low_surrogate, lone_unit_char, surrogate_pair_char, utf16_chars, utf16_lossy_chars}
use Rattle.std.specs.List.{flat_map, list_all, position_or_len}
use Rattle.std.specs.Str.{all_scalars, chars, is_utf8, IsUtf8}
use Rattle.std.proofs.lemmas.Bool.{and_from, and_left, and_parts, not-true}
use Rattle.std.proofs.lemmas.Bool.Decides.{nat_tests}
use Rattle.std.proofs.lemmas.List.{drop_at, flat_map_more, length-drop, take_at, take_more, take-append-drop}
use Rattle.std.proofs.lemmas.List.Folds.{list_all-append}
use Rattle.std.proofs.lemmas.Str.{chars-encodes, IsUtf8-from_is_utf8, is_utf8-from_IsUtf8}
use borrow.Author.Tests.{eq-eqb, ltb-false}
use lib.Utf8.{encode, encodes, scalar, scalar_cases}
use Rattle.uefi_text.proofs.UnitBytes.{length-unit_bytes, unit_bytes-append, units_of_bytes-unit_bytes}
use Rattle.uefi_text.specs.UnitBytes.{unit_bytes, units_of_bytes}
use Rattle.uefi_text.specs.Units.{is_nul}
use Rattle.uefi_text.proofs.Surrogates.{lone_first, pair_first}
use Rattle.uefi_device_nodes.specs.FieldTexts.{is_escaped, shown_char, shown_units, until_nul, utf16_text}
use Rattle.uefi_device_nodes.specs.Nodes.{Node, node_with}
use Rattle.uefi_device_nodes.specs.NodeTexts.{irregular_text, node_text}
use Rattle.uefi_node_reader.specs.CountedBytes.{pushed_byte, pushed_bytes}
use Rattle.uefi_node_reader.specs.FieldReading.{read_if}
use Rattle.uefi_node_reader.proofs.CountedBytes.{counted, past, pushed_bytes-append}
use Rattle.uefi_node_reader.proofs.Digits.{some_pair}
use Rattle.uefi_node_reader.specs.NamedFiles.{begins_name, ends_name, is_after_node, is_name, is_name_char, IsNamedNode, name_bytes, name_data, name_read}

-- the test for units among which no NUL is
abbrev pub no_nul : List ℕ → Bool
no_nul us = list_all (λ u. not (is_nul u)) us

-- the place of the first that passes, after others that do not
pub place_of : (p : ℕ → Bool) (xs rest : List ℕ) → list_all (λ x. not (p x)) xs ≡ true → position_or_len p rest ≡ 0
    → position_or_len p (xs ++ rest) ≡ length xs
place_of p [] rest e h = h
place_of p (x ∷ xs) rest e h =
    let q = and_parts (not (p x)) (list_all (λ y. not (p y)) xs) e in
    let others = place_of p xs rest q.1 h in
    ap (λ (t : Bool). cond t (1 + position_or_len p (xs ++ rest)) 0) q.0 ∙ omega arith

nul_place : (us : List ℕ) → no_nul us ≡ true → position_or_len is_nul (us ++ 0 ∷ []) ≡ length us
nul_place us e = place_of is_nul us (0 ∷ []) e refl

pub until_back : (us : List ℕ) → no_nul us ≡ true → until_nul (us ++ 0 ∷ []) ≡ us
until_back us e = ap (λ (n : ℕ). take n (us ++ 0 ∷ [])) (nul_place us e) ∙ take_at us (0 ∷ []) (length us) refl

all-append : (p : ℕ → Bool) (us vs : List ℕ) → list_all p us ≡ true → list_all p vs ≡ true → list_all p (us ++ vs) ≡ true
all-append p us vs e f = list_all-append p us vs ∙ and_from _ _ e f

lossy_first : (c : ℕ) (us : List ℕ) → scalar c ≡ true → utf16_lossy_chars (encode_utf16 c ++ us) ≡ c ∷ utf16_lossy_chars us
lossy_first c us s = by (ltb c 0x1_0000) refl (scalar_cases c s)
  where
    high : ℕ
    high = 0xD800 + (c - 0x1_0000) / 0x400

    low : ℕ
    low = 0xDC00 + (c - 0x1_0000) % 0x400

    by : (t : Bool) → ltb c 0x1_0000 ≡ t → (c < 55296) ⊎ ((57344 ≤ c) × (c < 1114112))
        → utf16_lossy_chars (cond t (c ∷ []) (high ∷ low ∷ []) ++ us) ≡ c ∷ utf16_lossy_chars us
    by true e r =
        let is_lone : is_high_surrogate c ≡ false = grind (arith, nat_tests) in
        let same : unwrap_or (lone_unit_char c) 0xFFFD ≡ c = grind (arith, nat_tests) in
        lone_first c us (and_left _ (is_low_surrogate (slice_index us 0)) is_lone) ∙ ap (λ (x : ℕ). x ∷ utf16_lossy_chars us) same
    by false e r =
        let large = ltb-false c 0x1_0000 e in
        let top : c < 1114112 = omega arith in
        let h : is_high_surrogate high ≡ true = grind (arith, nat_tests) in
        let l : is_low_surrogate low ≡ true = grind (arith, nat_tests) in
        let same : surrogate_pair_char high low ≡ c = omega arith in
        pair_first high low us (and_from _ _ h l) ∙ ap (λ (x : ℕ). x ∷ utf16_lossy_chars us) same

pub lossy_back : (cs : List ℕ) → all_scalars cs ≡ true → utf16_lossy_chars (flat_map encode_utf16 cs) ≡ cs
unfolding utf16_chars
lossy_back [] s = refl
lossy_back (c ∷ cs) s =
    let p = and_parts (scalar c) (all_scalars cs) s in
    lossy_first c (flat_map encode_utf16 cs) p.0 ∙ ap (λ (x : List ℕ). c ∷ x) (lossy_back cs p.1)

unit_no_nul : (c : ℕ) → is_escaped c ≡ false → no_nul (encode_utf16 c) ≡ true
unit_no_nul c e =
    let some : c ≢ 0 = λ z. true≢false (ap is_escaped (sym z) ∙ e) in
    grind (arith, nat_tests)

units_no_nul : (cs : List ℕ) → list_all is_name_char cs ≡ true → no_nul (flat_map encode_utf16 cs) ≡ true
units_no_nul [] e = refl
units_no_nul (c ∷ cs) e =
    let p = and_parts (is_name_char c) (list_all is_name_char cs) e in
    let q = and_parts (not (is_escaped c)) (not (ends_name c)) p.0 in
    all-append (λ u. not (is_nul u)) (encode_utf16 c) (flat_map encode_utf16 cs) (unit_no_nul c (not-true (is_escaped c) q.0)) (units_no_nul cs p.1)

shown_back : (cs : List ℕ) → list_all is_name_char cs ≡ true → flat_map shown_char cs ≡ encodes cs
unfolding shown_char
shown_back [] e = refl
shown_back (c ∷ cs) e =
    let p = and_parts (is_name_char c) (list_all is_name_char cs) e in
    let q = and_parts (not (is_escaped c)) (not (ends_name c)) p.0 in
    rw (not-true (is_escaped c) q.0) (ap (λ (x : List ℕ). encode c ++ x) (shown_back cs p.1))

-- the text of a node that holds a name is the name
pub named_text : (cs : List ℕ) → all_scalars cs ≡ true → list_all is_name_char cs ≡ true
    → node_text false false (node_with 4 4 (name_data cs)) ≡ encodes cs
unfolding node_text irregular_text utf16_text shown_units
named_text cs s e =
    let us : List ℕ = flat_map encode_utf16 cs in
    let whole : eqb (length (unit_bytes (us ++ 0 ∷ [])) % 2) 0 ≡ true = eq-eqb _ 0 (omega (arith, length-unit_bytes (us ++ 0 ∷ []))) in
    let shown : flat_map shown_char (utf16_lossy_chars (until_nul (units_of_bytes (unit_bytes (us ++ 0 ∷ []))))) ≡ encodes cs =
    ap (λ (x : List ℕ). flat_map shown_char (utf16_lossy_chars (until_nul x))) (units_of_bytes-unit_bytes (us ++ 0 ∷ []))
    ∙ ap (λ (x : List ℕ). flat_map shown_char (utf16_lossy_chars x)) (until_back us (units_no_nul cs e))
    ∙ ap (λ (x : List ℕ). flat_map shown_char x) (lossy_back cs s) ∙ shown_back cs e in
    rw whole shown

-- the test for a byte that ends no name
abbrev goes_on : ℕ → Bool
goes_on byte = not (ends_name byte)

high : (byte : ℕ) → 128 ≤ byte → goes_on byte ≡ true
high byte h = grind (arith, nat_tests)

encode_goes_on : (c : ℕ) → goes_on c ≡ true → list_all goes_on (encode c) ≡ true
unfolding encode
encode_goes_on c e = by (ltb c 128) (ltb c 2048) (ltb c 65536)
  where
    by : (x y z : Bool) → list_all goes_on (cond x (c ∷ []) (cond y ((192 + c / 64) ∷ (128 + c % 64) ∷ [])
        (cond z ((224 + c / 4096) ∷ (128 + c / 64 % 64) ∷ (128 + c % 64) ∷ []) ((240 + c / 262144) ∷ (128 + c / 4096 % 64) ∷ (128 + c / 64 % 64) ∷ (128 + c % 64) ∷ [])))) ≡ true
    by true y z = (λ i. e i && true)
    by false true z = (λ i. high (192 + c / 64) (omega arith) i && (high (128 + c % 64) (omega arith) i && true))
    by false false true = (λ i. high (224 + c / 4096) (omega arith) i && (high (128 + c / 64 % 64) (omega arith) i && (high (128 + c % 64) (omega arith) i && true)))
    by false false false = (λ i. high (240 + c / 262144) (omega arith) i && (high (128 + c / 4096 % 64) (omega arith) i
        && (high (128 + c / 64 % 64) (omega arith) i && (high (128 + c % 64) (omega arith) i && true))))

name_goes_on : (cs : List ℕ) → list_all is_name_char cs ≡ true → list_all goes_on (encodes cs) ≡ true
name_goes_on [] e = refl
name_goes_on (c ∷ cs) e =
    let p = and_parts (is_name_char c) (list_all is_name_char cs) e in
    let q = and_parts (not (is_escaped c)) (not (ends_name c)) p.0 in
    all-append goes_on (encode c) (encodes cs) (encode_goes_on c q.1) (name_goes_on cs p.1)

ends_at : (rest : List ℕ) → is_after_node rest ≡ true → position_or_len ends_name rest ≡ 0
ends_at [] e = refl
ends_at (b ∷ bs) e = ap (λ (t : Bool). cond (not t) (1 + position_or_len ends_name bs) 0) e

-- what the name of a node is
pub name_parts : (name : List ℕ) → is_name name ≡ true → (begins_name name ≡ true) × (list_all is_name_char name ≡ true)
name_parts name e =
    let p = and_parts (begins_name name) _ e in (p.0, (and_parts (list_all is_name_char name) _ p.1).0)

pub name_printed : (node : Node) (is : IsNamedNode node) → node_text false false node ≡ encodes is.name
name_printed node is = ap (λ (x : Node). node_text false false x) is.is ∙ named_text is.name is.scalars (name_parts is.name is.is_name).1

-- a name is read as its node
pub name_again : (node : Node) → IsNamedNode node → (rest : List ℕ) → is_after_node rest ≡ true
    → name_read (node_text false false node ++ rest) ≡ Some (node, rest)
name_again node is rest ends =
    let text : List ℕ = encodes is.name ++ rest in
    let place = place_of ends_name (encodes is.name) rest (name_goes_on is.name (name_parts is.name is.is_name).1) (ends_at rest ends) in
    let front : name_bytes text ≡ encodes is.name = ap (λ (n : ℕ). take n text) place ∙ take_at (encodes is.name) rest (length (encodes is.name)) refl in
    let left : drop (position_or_len ends_name text) text ≡ rest = ap (λ (n : ℕ). drop n text) place ∙ drop_at (encodes is.name) rest (length (encodes is.name)) refl in
    let back : chars (name_bytes text) ≡ is.name = ap chars front ∙ chars-encodes is.name is.scalars in
    let valid : is_utf8 (name_bytes text) ≡ true = ap is_utf8 front ∙ is_utf8-from_IsUtf8 (encodes is.name) (is.name, (is.scalars, refl)) in
    ap (λ (x : List ℕ). name_read (x ++ rest)) (name_printed node is)
    ∙ (λ i. read_if (valid i && is_name (back i)) (node_with 4 4 (name_data (back i))) (left i))
    ∙ (λ i. read_if (is.is_name i) (sym is.is i) rest)

taken : (t : Bool) (made node : Node) (left rest : List ℕ) → read_if t made left ≡ Some (node, rest) → (t ≡ true) × (made ≡ node) × (left ≡ rest)
taken false made node left rest e = cc
taken true made node left rest e = let same = some_pair (made, left) (node, rest) e in (refl, same.0, same.1)

-- what is read is a node that holds a name, and is printed so
pub name_takes : (text : List ℕ) (node : Node) (rest : List ℕ) → name_read text ≡ Some (node, rest)
    → IsNamedNode node × (text ≡ node_text false false node ++ rest)
name_takes text node rest e =
    let place : ℕ = position_or_len ends_name text in
    let name : List ℕ = name_bytes text in
    let made : Node = node_with 4 4 (name_data (chars name)) in
    let p = taken (is_utf8 name && is_name (chars name)) made node (drop place text) rest e in
    let q = and_parts (is_utf8 name) (is_name (chars name)) p.0 in
    let u = IsUtf8-from_is_utf8 name q.0 in
    let same : chars name ≡ u.0 = ap chars (sym u.1.1) ∙ chars-encodes u.0 u.1.0 in
    let s : all_scalars (chars name) ≡ true = ap all_scalars same ∙ u.1.0 in
    let bytes : encodes (chars name) ≡ name = ap encodes same ∙ u.1.1 in
    let is : IsNamedNode made = record { name = chars name; scalars = s; is_name = q.1; is = refl } in (
      subst (λ (x : Node). IsNamedNode x) p.1 is,
      sym (take-append-drop place text) ∙ (λ i. sym bytes i ++ p.2 i)
          ∙ ap (λ (x : List ℕ). x ++ rest) (sym (name_printed made is)) ∙ ap (λ (x : Node). node_text false false x ++ rest) p.1,
    )

-- a character more
pub text_more : (state : List ℕ × ℕ) (so_far : List ℕ) (c : ℕ)
    → pushed_bytes (pushed_bytes state (unit_bytes (flat_map encode_utf16 so_far))) (unit_bytes (encode_utf16 c))
    ≡ pushed_bytes state (unit_bytes (flat_map encode_utf16 (so_far ++ c ∷ [])))
text_more state so_far c =
    sym (pushed_bytes-append state (unit_bytes (flat_map encode_utf16 so_far)) (unit_bytes (encode_utf16 c)))
    ∙ ap (pushed_bytes state) (sym (unit_bytes-append (flat_map encode_utf16 so_far) (encode_utf16 c))
    ∙ ap unit_bytes (flat_map_more encode_utf16 [] so_far c))

-- the bytes of one unit more
pub unit_more : (state : List ℕ × ℕ) (units : List ℕ) (k unit : ℕ) → k < length units → unit ≡ slice_index units k
    → pushed_byte (pushed_byte (pushed_bytes state (unit_bytes (take k units))) (unit % 256)) (unit / 256)
    ≡ pushed_bytes state (unit_bytes (take (k + 1) units))
unit_more state units k unit l is =
    ap (λ (u : ℕ). pushed_bytes (pushed_bytes state (unit_bytes (take k units))) (unit_bytes (u ∷ []))) is
    ∙ sym ((λ i. pushed_bytes state (unit_bytes (take_more units k 0 l i)))
    ∙ ap (pushed_bytes state) (unit_bytes-append (take k units) (slice_index units k ∷ []))
    ∙ pushed_bytes-append state (unit_bytes (take k units)) (unit_bytes (slice_index units k ∷ [])))

-- units for which there is no room are only counted
pub units_counted : (state : List ℕ × ℕ) (text places : List ℕ) (k count : ℕ)
    → (places, count) ≡ pushed_bytes state (unit_bytes (take k text)) → state.1 ≤ 2 ^ 64 - 1 → length places ≤ count
    → k ≤ length text → (places, min (count + min ((length text - k) * 2) (2 ^ 64 - 1)) (2 ^ 64 - 1)) ≡ pushed_bytes state (unit_bytes text)
units_counted state text places k count e small full l =
    let front : List ℕ = unit_bytes (take k text) in
    let rest : List ℕ = unit_bytes (drop k text) in
    let few : count ≤ 2 ^ 64 - 1 = omega (arith, ap (λ (s : List ℕ × ℕ). s.1) e ∙ counted front state.0 state.1 small) in
    let size : length rest ≡ 2 * (length text - k) = length-unit_bytes (drop k text) ∙ ap (λ (n : ℕ). 2 * n) (length-drop k text) in
    let sum : min (count + length rest) (2 ^ 64 - 1) ≡ min (count + min ((length text - k) * 2) (2 ^ 64 - 1)) (2 ^ 64 - 1) = omega (arith, size) in
    sym (ap (λ (x : List ℕ). pushed_bytes state (unit_bytes x)) (sym (take-append-drop k text))
    ∙ ap (pushed_bytes state) (unit_bytes-append (take k text) (drop k text))
    ∙ pushed_bytes-append state front rest
    ∙ ap (λ (s : List ℕ × ℕ). pushed_bytes s rest) (sym e)
    ∙ past rest places count full few
    ∙ ap (λ (n : ℕ). (places, n)) sum)

-- and the NUL after them
pub text_end : (name : List ℕ) → unit_bytes (flat_map encode_utf16 name) ++ 0 ∷ 0 ∷ [] ≡ name_data name
text_end name = sym (unit_bytes-append (flat_map encode_utf16 name) (0 ∷ []))

-- a name
pub name_found : (text front items rest : List ℕ) → front ≡ name_bytes text → IsUtf8 front → begins_name (chars front) ≡ true
    → list_all is_name_char (chars front) ≡ true → items ≡ name_data (chars front) → length items ≤ 0xfffb
    → rest ≡ drop (position_or_len ends_name text) text → Some (node_with 4 4 items, rest) ≡ name_read text
name_found text front items rest same utf8 begins all held fits left =
    let size = ap length held in
    let yes : leb (length (name_data (chars front))) 0xfffb ≡ true = grind (arith, nat_tests) in
    let valid = is_utf8-from_IsUtf8 front utf8 in
    (λ i. read_if (sym valid i && (sym begins i && (sym all i && sym yes i))) (node_with 4 4 (held i)) (left i))
    ∙ ap (λ (x : List ℕ). read_if (is_utf8 x && is_name (chars x)) (node_with 4 4 (name_data (chars x))) (drop (position_or_len ends_name text) text)) same
