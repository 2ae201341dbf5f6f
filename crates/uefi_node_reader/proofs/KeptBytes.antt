-- The bytes of a call that are kept when it is tidied.
use Rattle.std.proofs.Common.{◌≡◌, ℕ, suc, ◌+◌, ◌-◌, ◌≤◌, Bool, true, false, cond, eqb, not, List, [], ◌∷◌, ◌++◌, length, drop, take, refl, sym, ap, ◌∙◌, arith}
use Rattle.std.specs.Prelude.{◌&&◌, codes, filter, map}
use Rattle.std.proofs.lemmas.List.{append-nil, drop_all, drop-append-le, drop-map, length-append, length-map, take_all, take-append-le, take-map}
use Rattle.std.proofs.lemmas.Bool.{eqb-false, eqb-true}
use Rattle.std.proofs.Math.Numerals.{add-one}
use Rattle.uefi_node_reader.specs.LenientCalls.{is_blank, place_at, tidied_byte, tidied_rest}

abbrev pub kept : List ℕ → List ℕ
kept text = filter (λ (c : ℕ). not (is_blank c)) text

-- where a number of bytes is kept before
pub place_at-blank : (count byte : ℕ) (rest : List ℕ) → is_blank byte ≡ true → place_at count (byte ∷ rest) ≡ place_at count rest + 1
place_at-blank count byte rest e =
    ap (λ (b : Bool). cond b (place_at count rest + 1) (cond (eqb count 0) 0 (place_at (count - 1) rest + 1))) e

pub place_at-more : (count byte : ℕ) (rest : List ℕ) → is_blank byte ≡ false → eqb count 0 ≡ false
    → place_at count (byte ∷ rest) ≡ place_at (count - 1) rest + 1
place_at-more count byte rest e f =
    ap (λ (b : Bool). cond b (place_at count rest + 1) (cond (eqb count 0) 0 (place_at (count - 1) rest + 1))) e
    ∙ ap (λ (b : Bool). cond b 0 (place_at (count - 1) rest + 1)) f

pub kept-take : (count : ℕ) (text : List ℕ) → kept (take (place_at count text) text) ≡ take count (kept text)
kept-take count [] = sym (take_all count [] (omega arith))
kept-take count (c ∷ cs) = by (is_blank c) (eqb count 0) refl refl (kept-take count cs) (kept-take (count - 1) cs)
  where
    by : (b z : Bool) → is_blank c ≡ b → eqb count 0 ≡ z
        → kept (take (place_at count cs) cs) ≡ take count (kept cs)
        → kept (take (place_at (count - 1) cs) cs) ≡ take (count - 1) (kept cs)
        → kept (take (cond b (place_at count cs + 1) (cond z 0 (place_at (count - 1) cs + 1))) (c ∷ cs))
        ≡ take count (cond (not b) (c ∷ kept cs) (kept cs))
    by true z e f h k = rw (add-one, e) h
    by false true e f h k = rw (eqb-true count 0 f) refl
    by false false e f h k =
        let more : suc (count - 1) ≡ count = omega (arith, eqb-false count 0 f) in
        rw (add-one, e) (ap (λ (l : List ℕ). c ∷ l) k ∙ ap (λ (n : ℕ). take n (c ∷ kept cs)) more)

pub kept-drop : (count : ℕ) (text : List ℕ) → kept (drop (place_at count text) text) ≡ drop count (kept text)
kept-drop count [] = sym (drop_all count [] (omega arith))
kept-drop count (c ∷ cs) = by (is_blank c) (eqb count 0) refl refl (kept-drop count cs) (kept-drop (count - 1) cs)
  where
    by : (b z : Bool) → is_blank c ≡ b → eqb count 0 ≡ z
        → kept (drop (place_at count cs) cs) ≡ drop count (kept cs)
        → kept (drop (place_at (count - 1) cs) cs) ≡ drop (count - 1) (kept cs)
        → kept (drop (cond b (place_at count cs + 1) (cond z 0 (place_at (count - 1) cs + 1))) (c ∷ cs))
        ≡ drop count (cond (not b) (c ∷ kept cs) (kept cs))
    by true z e f h k = rw add-one h
    by false true e f h k = rw (eqb-true count 0 f, e) refl
    by false false e f h k =
        let more : suc (count - 1) ≡ count = omega (arith, eqb-false count 0 f) in
        rw add-one (k ∙ ap (λ (n : ℕ). drop n (c ∷ kept cs)) more)

-- the front of a tidied call
pub tidied-front : (is_open : Bool) (count : ℕ) (text : List ℕ) → count ≤ length (kept text)
    → tidied_rest false (take (place_at count text) text) ≡ take count (tidied_rest is_open text)
tidied-front is_open count text h =
    append-nil (map tidied_byte (kept (take (place_at count text) text)))
    ∙ ap (λ (l : List ℕ). map tidied_byte l) (kept-take count text)
    ∙ sym (take-map tidied_byte count (kept text))
    ∙ sym (take-append-le count (map tidied_byte (kept text)) (cond is_open (codes ")") [])
    (omega (arith, length-map (kept text) tidied_byte)))

-- the rest of it
pub tidied-back : (is_open : Bool) (count : ℕ) (text : List ℕ) → count ≤ length (kept text)
    → tidied_rest is_open (drop (place_at count text) text) ≡ drop count (tidied_rest is_open text)
tidied-back is_open count text h =
    ap (λ (l : List ℕ). map tidied_byte l ++ cond is_open (codes ")") []) (kept-drop count text)
    ∙ ap (λ (l : List ℕ). l ++ cond is_open (codes ")") []) (sym (drop-map tidied_byte count (kept text)))
    ∙ sym (drop-append-le count (map tidied_byte (kept text)) (cond is_open (codes ")") [])
    (omega (arith, length-map (kept text) tidied_byte)))

pub length-tidied : (is_open : Bool) (text : List ℕ)
    → length (tidied_rest is_open text) ≡ length (kept text) + cond is_open 1 0
length-tidied true text = length-append (map tidied_byte (kept text)) (codes ")") ∙ omega (arith, length-map (kept text) tidied_byte)
length-tidied false text = length-append (map tidied_byte (kept text)) [] ∙ omega (arith, length-map (kept text) tidied_byte)

-- the whole of it
pub tidied-all : (count : ℕ) (text : List ℕ) → count ≡ length (kept text) + 1
    → tidied_rest true (take (place_at count text) text) ≡ take count (tidied_rest true text)
tidied-all count text h =
    ap (λ (l : List ℕ). map tidied_byte l ++ codes ")") (kept-take count text ∙ take_all count (kept text) (omega arith))
    ∙ sym (take_all count (tidied_rest true text) (omega (arith, length-tidied true text)))

pub tidied-nothing : (count : ℕ) (text : List ℕ) → count ≡ length (kept text) + 1
    → tidied_rest false (drop (place_at count text) text) ≡ drop count (tidied_rest true text)
tidied-nothing count text h =
    ap (λ (l : List ℕ). map tidied_byte l ++ []) (kept-drop count text ∙ drop_all count (kept text) (omega arith))
    ∙ sym (drop_all count (tidied_rest true text) (omega (arith, length-tidied true text)))

-- the front of a tidied call, which is open if it is the whole
pub split-front : (is_open whole : Bool) (count : ℕ) (text : List ℕ) → count ≤ length (tidied_rest is_open text)
    → whole ≡ (is_open && eqb count (length (tidied_rest is_open text)))
    → tidied_rest whole (take (place_at count text) text) ≡ take count (tidied_rest is_open text)
split-front false whole count text h e =
    rw e (tidied-front false count text (omega (arith, length-tidied false text)))
split-front true whole count text h e = by (eqb count (length (tidied_rest true text))) refl e
  where
    by : (b : Bool) → eqb count (length (tidied_rest true text)) ≡ b → whole ≡ b
        → tidied_rest whole (take (place_at count text) text) ≡ take count (tidied_rest true text)
    by true d e = rw e (tidied-all count text (eqb-true count (length (tidied_rest true text)) d ∙ length-tidied true text))
    by false d e =
        let other = eqb-false count (length (tidied_rest true text)) d in
        rw e (tidied-front true count text (omega (arith, length-tidied true text)))

-- the rest of it, which is open unless the front is the whole
pub split-back : (is_open whole is_left : Bool) (count : ℕ) (text : List ℕ) → count ≤ length (tidied_rest is_open text)
    → whole ≡ (is_open && eqb count (length (tidied_rest is_open text))) → is_left ≡ (is_open && not whole)
    → tidied_rest is_left (drop (place_at count text) text) ≡ drop count (tidied_rest is_open text)
split-back false whole is_left count text h e f =
    rw f (tidied-back false count text (omega (arith, length-tidied false text)))
split-back true whole is_left count text h e f = by (eqb count (length (tidied_rest true text))) refl e
  where
    by : (b : Bool) → eqb count (length (tidied_rest true text)) ≡ b → whole ≡ b
        → tidied_rest is_left (drop (place_at count text) text) ≡ drop count (tidied_rest true text)
    by true d e = rw (f, e) (tidied-nothing count text (eqb-true count (length (tidied_rest true text)) d ∙ length-tidied true text))
    by false d e =
        let other = eqb-false count (length (tidied_rest true text)) d in
        rw (f, e) (tidied-back true count text (omega (arith, length-tidied true text)))
