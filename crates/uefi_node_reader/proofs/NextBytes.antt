-- The first byte of what is left of a text, and what is left after it.
use Rattle.std.proofs.Common.{◌≡◌, ℕ, ◌+◌, ◌<◌, ◌≤◌, Bool, true, false, cond, List, [], ◌∷◌, length, drop, take, get_or, ap, sym, ◌∙◌, arith}
use Rattle.std.specs.Prelude.{filter}
use Rattle.std.proofs.lemmas.List.{drop_more, length-drop}
use Rattle.std.proofs.lemmas.List.Filters.{length-filter_more}

pub next-within : (text rest : List ℕ) (place byte : ℕ) → drop place text ≡ byte ∷ rest → place < length text
next-within text rest place byte e = omega (arith, length-drop place text, ap length e)

pub next-rest : (text rest : List ℕ) (place byte : ℕ) → drop place text ≡ byte ∷ rest → rest ≡ drop (place + 1) text
next-rest text rest place byte e =
    let more = drop_more text place 0 (next-within text rest place byte e) in
    cc

-- the same of a part of a text that is said to begin at an index
pub byte_at : (text part rest : List ℕ) (place byte : ℕ) → part ≡ drop place text → part ≡ byte ∷ rest
    → (place < length text) × (byte ≡ get_or text place 0) × (rest ≡ drop (place + 1) text)
byte_at text part rest place byte so_far read =
    let e : drop place text ≡ byte ∷ rest = sym so_far ∙ read in
    let within = next-within text rest place byte e in
    let more = drop_more text place 0 within in
    (within, (cc), next-rest text rest place byte e)

pub none_at : (text part : List ℕ) (place : ℕ) → part ≡ drop place text → part ≡ [] → length text ≤ place
none_at text part place so_far over =
    let size : length (drop place text) ≡ length {A = ℕ} [] = ap length (sym so_far ∙ over) in
    omega (arith, length-drop place text)

-- how many of the bytes up to there pass a test
module _ (test : ℕ → Bool) (text rest : List ℕ) (place byte : ℕ) (e : drop place text ≡ byte ∷ rest) where
  passing : length (filter test (take (place + 1) text)) ≡ length (filter test (take place text)) + cond (test byte) 1 0
  passing =
      let within = next-within text rest place byte e in
      let more = drop_more text place 0 within in
      let here : get_or text place 0 ≡ byte = cc in
      length-filter_more test text place 0 within
      ∙ ap (λ (b : ℕ). length (filter test (take place text)) + cond (test b) 1 0) here

  pub next-passes : test byte ≡ true → length (filter test (take (place + 1) text)) ≡ length (filter test (take place text)) + 1
  next-passes h = passing ∙ ap (λ (b : Bool). length (filter test (take place text)) + cond b 1 0) h

  pub next-fails : test byte ≡ false → length (filter test (take (place + 1) text)) ≡ length (filter test (take place text))
  next-fails h = passing ∙ ap (λ (b : Bool). length (filter test (take place text)) + cond b 1 0) h ∙ omega arith
