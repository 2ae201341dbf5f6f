-- Bytes that are printed one by one, from the first or from the last.
use Rattle.std.proofs.Common.{◌≡◌, ℕ, zero, suc, ◌+◌, ◌-◌, ◌<◌, ◌==◌, false, if◌then◌else◌, List, [], ◌∷◌, ◌++◌, codes, append_assoc, length, take, reverse, get_or, ap, sym, ◌∙◌, arith}
use Rattle.std.proofs.lemmas.Grind.{flat_map-append}
use Rattle.std.proofs.lemmas.List.{append-nil, flat_map_more, get_or-reverse, length-reverse, length-take, reverse-append, take_more}
use Rattle.std.specs.List.{flat_map, join_by}
use Rattle.uefi_device_nodes.specs.FieldTexts.{hex_back, hex_bytes, hex_two}

-- one byte more after a text
pub byte_more : (shown : ℕ → List ℕ) (text bytes : List ℕ) (i : ℕ) → i < length bytes
    → (text ++ flat_map shown (take i bytes)) ++ shown (get_or bytes i 0) ≡ text ++ flat_map shown (take (i + 1) bytes)
byte_more shown text bytes i h =
    flat_map_more shown text (take i bytes) (get_or bytes i 0) ∙ ap (λ (xs : List ℕ). text ++ flat_map shown xs) (sym (take_more bytes i 0 h))

-- more bytes after a text and bytes
pub shown_more : (shown : ℕ → List ℕ) (text before more : List ℕ)
    → (text ++ flat_map shown before) ++ flat_map shown more ≡ text ++ flat_map shown (before ++ more)
shown_more shown text before more =
    append_assoc text (flat_map shown before) (flat_map shown more)
    ∙ ap (λ (xs : List ℕ). text ++ xs) (sym (flat_map-append shown before more))

pub bytes_more : (text before more : List ℕ) → (text ++ hex_bytes before) ++ hex_bytes more ≡ text ++ hex_bytes (before ++ more)
unfolding hex_bytes
bytes_more text before more = shown_more hex_two text before more

-- the same from the last byte to the first
pub back_more : (text block after : List ℕ) → (text ++ hex_back after) ++ hex_back block ≡ text ++ hex_back (block ++ after)
unfolding hex_back
back_more text block after =
    bytes_more text (reverse after) (reverse block) ∙ ap (λ (xs : List ℕ). text ++ hex_bytes xs) (sym (reverse-append block after))

-- one byte more after others, and the first
dashed_push : (ys : List ℕ) (i x : ℕ) → length ys ≡ i
    → join_by hex_two (codes "-") ys ++ (if i == 0 then hex_two x else codes "-" ++ hex_two x)
    ≡ join_by hex_two (codes "-") (ys ++ x ∷ [])
dashed_push [] zero x h = sym (append-nil (hex_two x))
dashed_push [] (suc i) x h = absurd (omega arith)
dashed_push (y ∷ ys) zero x h = absurd (omega arith)
dashed_push (y ∷ ys) (suc i) x h =
    let other : (suc i == 0) ≡ false = grind arith in
    rw other (flat_map_more (λ b. codes "-" ++ hex_two b) (hex_two y) ys x)

pub dashed_more : (bytes : List ℕ) (i : ℕ) → i < length bytes
    → join_by hex_two (codes "-") (take i (reverse bytes))
    ++ (if i == 0 then hex_two (get_or bytes (length bytes - 1 - i) 0) else codes "-" ++ hex_two (get_or bytes (length bytes - 1 - i) 0))
    ≡ join_by hex_two (codes "-") (take (i + 1) (reverse bytes))
dashed_more bytes i h =
    let r = reverse bytes in
    let within : i < length r = omega (arith, length-reverse bytes) in
    let long : length (take i r) ≡ i = omega (arith, length-take i r) in
    ap (λ (x : ℕ). join_by hex_two (codes "-") (take i r) ++ (if i == 0 then hex_two x else codes "-" ++ hex_two x)) (sym (get_or-reverse bytes i 0 h))
    ∙ dashed_push (take i r) i (get_or r i 0) long ∙ ap (λ (xs : List ℕ). join_by hex_two (codes "-") xs) (sym (take_more r i 0 within))
