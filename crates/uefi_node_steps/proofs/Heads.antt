-- Heads of data, byte by byte and of two parts.
use Rattle.std.proofs.Common.{◌≡◌, ℕ, ◌+◌, ◌-◌, ◌^◌, ◌<◌, ◌≤◌, min, true, List, [], ◌∷◌, ◌++◌, inl, inr, length, take, set, get_or, suc, refl, sym, ap, ◌∙◌, arith, length-append}
use Rattle.std.proofs.Math.Seq.{set_out, take-append-add}
use Rattle.std.proofs.lemmas.Bool.{and_from, cases_lt, lt-ltb}
use Rattle.std.proofs.lemmas.List.{length-take, take-append-le, take-take, take_all, take_more_set}
use Rattle.std.proofs.lemmas.List.Folds.{list_all-append}
use Rattle.std.specs.List.{list_all}
use Rattle.std.specs.Prelude.{◌⊎◌}
use Rattle.uefi_node_steps.specs.Heads.{IsHead, is_byte}

-- one byte more
module _ (bytes seen : List ℕ) (count code : ℕ) (long : length bytes ≡ 56) (counted : count ≡ min (length seen) (2 ^ 64 - 1)) (kept : take count bytes ≡ take 56 seen) where
  pub put_kept : (next : ℕ) → next ≡ min (count + 1) (2 ^ 64 - 1) → take next (set bytes count code) ≡ take 56 (seen ++ code ∷ [])
  put_kept next e = by (cases_lt count 56)
    where
      by : (count < 56) ⊎ (56 ≤ count) → take next (set bytes count code) ≡ take 56 (seen ++ code ∷ [])
      by (inl few) =
          let size : length seen ≡ count = omega arith in
          let one : next ≡ count + 1 = omega arith in
          ap (λ (n : ℕ). take n (set bytes count code)) one
          ∙ take_more_set bytes count code (omega arith) ∙ ap (λ (l : List ℕ). l ++ code ∷ []) (kept ∙ take_all 56 seen (omega arith))
          ∙ sym (take_all 56 (seen ++ code ∷ []) (omega (arith, length-append seen (code ∷ []))))
      by (inr many) =
          ap (λ (l : List ℕ). take next l) (set_out bytes count code (omega arith))
          ∙ take_all next bytes (omega arith) ∙ sym (take_all count bytes (omega arith)) ∙ kept ∙ sym (take-append-le 56 seen (code ∷ []) (omega arith))

pub put_bytes : (seen : List ℕ) (code : ℕ) → list_all is_byte seen ≡ true → code < 256 → list_all is_byte (seen ++ code ∷ []) ≡ true
put_bytes seen code s b = list_all-append is_byte seen (code ∷ []) ∙ and_from _ _ s (and_from _ _ (lt-ltb code 256 b) refl)

-- the elements of a slice
pub all_bytes : (bytes : List ℕ) → ((k : ℕ) → k < length bytes → get_or bytes k 0 < 256) → list_all is_byte bytes ≡ true
all_bytes [] h = refl
all_bytes (b ∷ bytes) h = and_from _ _ (lt-ltb b 256 (h 0 (omega arith))) (all_bytes bytes (λ k l. h (suc k) (omega arith)))

-- two parts
module _ (fixed tail bytes : List ℕ) (count len : ℕ) (short : length fixed ≤ 56) (long : length bytes ≡ 56) (counted : count ≡ min (length tail) (2 ^ 64 - 1)) (kept : take count bytes ≡ take 56 tail)
    (sum : len ≡ min (length fixed + count) (2 ^ 64 - 1)) where
  abbrev room : ℕ
  room = 56 - length fixed

  -- the part after the first
  rest : (k : ℕ) → len ≡ length fixed + k → take k (take room bytes) ≡ take room tail
  rest k e = by (cases_lt count 56)
    where
      small : count < 56 → (room < k) ⊎ (k ≤ room) → take k (take room bytes) ≡ take room tail
      small l (inr m) =
          let same : k ≡ count = omega arith in
          let all : take 56 tail ≡ tail = take_all 56 tail (omega arith) in
          take-take k room bytes m ∙ ap (λ (n : ℕ). take n bytes) same ∙ kept ∙ all ∙ sym (take_all room tail (omega arith))
      small l (inl m) =
          let same : k ≡ count = omega arith in
          let all : take 56 tail ≡ tail = take_all 56 tail (omega arith) in
          take_all k (take room bytes) (omega (arith, length-take room bytes)) ∙ sym (take-take room count bytes (omega arith)) ∙ ap (λ (l : List ℕ). take room l) (kept ∙ all)

      by : (count < 56) ⊎ (56 ≤ count) → take k (take room bytes) ≡ take room tail
      by (inl l) = small l (cases_lt room k)
      by (inr m) =
          let whole : bytes ≡ take 56 tail = sym (take_all count bytes (omega arith)) ∙ kept in
          take_all k (take room bytes) (omega (arith, length-take room bytes)) ∙ ap (λ (l : List ℕ). take room l) whole ∙ take-take room 56 tail (omega arith)

  head_kept : take len (fixed ++ take room bytes) ≡ take 56 (fixed ++ tail)
  head_kept =
      let k : len ≡ length fixed + (len - length fixed) = omega arith in
      let whole : 56 ≡ length fixed + room = omega arith in
      ap (λ (n : ℕ). take n (fixed ++ take room bytes)) k ∙ take-append-add fixed (take room bytes) (len - length fixed)
      ∙ ap (λ (l : List ℕ). fixed ++ l) (rest (len - length fixed) k) ∙ sym (take-append-add fixed tail room) ∙ ap (λ (n : ℕ). take n (fixed ++ tail)) (sym whole)

  pub joined : list_all is_byte fixed ≡ true → list_all is_byte tail ≡ true → IsHead (fixed ++ tail) (fixed ++ take room bytes) len
  joined f t = record {
    long = omega (arith, length-append fixed (take room bytes), length-take room bytes);
    kept = head_kept;
    counted = omega (arith, length-append fixed tail);
    bytes = list_all-append is_byte fixed tail ∙ and_from _ _ f t;
  }
