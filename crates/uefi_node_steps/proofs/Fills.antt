-- Buffers that are filled byte by byte.
use Rattle.std.proofs.Common.{◌≡◌, ℕ, ◌+◌, ◌-◌, ◌<◌, ◌≤◌, zero, suc, Bool, true, false, cond, List, [], ◌∷◌, ◌++◌, length, refl, sym, ap, ◌∙◌, append_assoc, arith}
use Rattle.std.proofs.Math.ListN.{replicate}
use Rattle.std.proofs.lemmas.Bool.Decides.{nat_tests}
use Rattle.std.specs.List.{concat}
use Rattle.std.specs.Prelude.{nat_le, Result, Ok, Err}
use Rattle.std.proofs.lemmas.Bool.{cond-false, cond-true}
use Rattle.std.proofs.lemmas.List.{append-nil}
use Rattle.uefi_node_steps.specs.Leaves.{ByteLeaf, Leaf, Read, ◌>>=◌, after, after_first, apart, clear_run, is_clear, behind_each, pairs, at_digits, bytes_after_comma, has_comma, has_pair, many, many_read, padded, padded_text, pair, past_blanks, repeat_read, some, stop_at, tested}
use Rattle.uefi_node_steps.specs.declared.steps.Expected.TheVariants as expected
use Rattle.uefi_node_steps.specs.Views.{after_these, filled_with}
use Rattle.uefi_node_steps.specs.declared.steps.Stop.{Stop}

-- a value more, and others after it
both : {V : Type 0} (front : List V) (v : V) (r : Read (List V)) → after_these front (r >>= λ vs. Ok (v ∷ vs.0, vs.1)) ≡ after_these (front ++ v ∷ []) r
both front v (Err stop) = refl
both front v (Ok vs) = ap (λ x. Ok (x, vs.1)) (sym (append_assoc front (v ∷ []) vs.0))

then : {V : Type 0} (front : List V) (others : List ℕ → Read (List V)) (r : Read V) → after_these front (r >>= λ v. others v.1 >>= λ vs. Ok (v.0 ∷ vs.0, vs.1))
    ≡ (r >>= λ v. after_these (front ++ v.0 ∷ []) (others v.1))
then front others (Err stop) = refl
then front others (Ok v) = both front v.0 (others v.1)

module _ {V : Type 0} (leaf : Leaf V) where
  step : (front : List V) (n place : ℕ) (text : List ℕ) → place < n → after_these front (repeat_read leaf (n - place) text)
      ≡ (leaf.read text >>= λ v. after_these (front ++ v.0 ∷ []) (repeat_read leaf (n - (place + 1)) v.1))
  step front n place text l = ap (λ (k : ℕ). after_these front (repeat_read leaf k text)) {x = n - place} {y = suc (n - (place + 1))} (omega arith)
      ∙ then front (repeat_read leaf (n - (place + 1))) (leaf.read text)

  pub step_ok : (front : List V) (n place : ℕ) (text : List ℕ) (v : V) (rest : List ℕ) → place < n → leaf.read text ≡ Ok (v, rest)
      → after_these front (repeat_read leaf (n - place) text) ≡ after_these (front ++ v ∷ []) (repeat_read leaf (n - (place + 1)) rest)
  step_ok front n place text v rest l e = step front n place text l ∙ ap (λ r. r >>= λ v. after_these (front ++ v.0 ∷ []) (repeat_read leaf (n - (place + 1)) v.1)) e

  pub step_err : (front : List V) (n place : ℕ) (text : List ℕ) (stop : Stop) → place < n → leaf.read text ≡ Err stop
      → after_these front (repeat_read leaf (n - place) text) ≡ Err stop
  step_err front n place text stop l e = step front n place text l ∙ ap (λ r. r >>= λ v. after_these (front ++ v.0 ∷ []) (repeat_read leaf (n - (place + 1)) v.1)) e

  pub step_end : (front : List V) (n place : ℕ) (text : List ℕ) → n ≤ place → after_these front (repeat_read leaf (n - place) text) ≡ Ok (front, text)
  step_end front n place text l = ap (λ (k : ℕ). after_these front (repeat_read leaf k text)) {x = n - place} {y = 0} (omega arith) ∙ ap (λ x. Ok (x, text)) (append-nil front)

-- as many values as there are
module _ {V : Type 0} (test : List ℕ → Bool) (leaf : Leaf V) where
  more : (front : List V) (n place : ℕ) (text : List ℕ) → place < n → test text ≡ true → after_these front (many_read test leaf (n - place) text)
      ≡ (leaf.read text >>= λ v. after_these (front ++ v.0 ∷ []) (many_read test leaf (n - (place + 1)) v.1))
  more front n place text l t = ap (λ (k : ℕ). after_these front (many_read test leaf k text)) {x = n - place} {y = suc (n - (place + 1))} (omega arith)
      ∙ ap (after_these front) (cond-true (test text) _ _ t) ∙ then front (many_read test leaf (n - (place + 1))) (leaf.read text)

  pub more_ok : (front : List V) (n place : ℕ) (text : List ℕ) (v : V) (rest : List ℕ) → place < n → test text ≡ true → leaf.read text ≡ Ok (v, rest)
      → after_these front (many_read test leaf (n - place) text) ≡ after_these (front ++ v ∷ []) (many_read test leaf (n - (place + 1)) rest)
  more_ok front n place text v rest l t e = more front n place text l t ∙ ap (λ r. r >>= λ v. after_these (front ++ v.0 ∷ []) (many_read test leaf (n - (place + 1)) v.1)) e

  pub more_err : (front : List V) (n place : ℕ) (text : List ℕ) (stop : Stop) → place < n → test text ≡ true → leaf.read text ≡ Err stop
      → after_these front (many_read test leaf (n - place) text) ≡ Err stop
  more_err front n place text stop l t e = more front n place text l t ∙ ap (λ r. r >>= λ v. after_these (front ++ v.0 ∷ []) (many_read test leaf (n - (place + 1)) v.1)) e

  pub no_more : (front : List V) (count : ℕ) (text : List ℕ) → test text ≡ false → after_these front (many_read test leaf count text) ≡ Ok (front, text)
  no_more front zero text t = ap (λ x. Ok (x, text)) (append-nil front)
  no_more front (suc count) text t = ap (after_these front) (cond-false (test text) _ _ t) ∙ ap (λ x. Ok (x, text)) (append-nil front)

  pub no_count : (front : List V) (n place : ℕ) (text : List ℕ) → n ≤ place → after_these front (many_read test leaf (n - place) text) ≡ Ok (front, text)
  no_count front n place text l = ap (λ (k : ℕ). after_these front (many_read test leaf k text)) {x = n - place} {y = 0} (omega arith) ∙ ap (λ x. Ok (x, text)) (append-nil front)

-- bytes with letters before each
module _ (letters : List ℕ) where
  abbrev next : List ℕ → Read (List ℕ)
  next = (after letters (pairs 1)).read

  abbrev those : ℕ → List ℕ → Read (List ℕ)
  those count = (behind_each letters 1 (pairs 1) count).read

  abbrev joined : List ℕ → ℕ → Read (List ℕ) → Read (List ℕ)
  joined front count r = after_these front (r >>= λ v. those count v.1 >>= λ vs. Ok (v.0 ++ vs.0, vs.1))

  behind : (front : List ℕ) (n place : ℕ) (text : List ℕ) → place < n → after_these front (those (n - place) text) ≡ joined front (n - (place + 1)) (next text)
  behind front n place text l = ap (λ (k : ℕ). after_these front (those k text)) {x = n - place} {y = suc (n - (place + 1))} (omega arith)

  pub behind_ok : (front : List ℕ) (n place : ℕ) (text : List ℕ) (byte : ℕ) (rest : List ℕ) → place < n → next text ≡ Ok (byte ∷ [], rest)
      → after_these front (those (n - place) text) ≡ after_these (front ++ byte ∷ []) (those (n - (place + 1)) rest)
  behind_ok front n place text byte rest l e = behind front n place text l ∙ ap (joined front (n - (place + 1))) e ∙ both front byte (those (n - (place + 1)) rest)

  pub behind_err : (front : List ℕ) (n place : ℕ) (text : List ℕ) (stop : Stop) → place < n → next text ≡ Err stop → after_these front (those (n - place) text) ≡ Err stop
  behind_err front n place text stop l e = behind front n place text l ∙ ap (joined front (n - (place + 1))) e

-- the data of items
module _ (test : List ℕ → Bool) (leaf : ByteLeaf) where
  abbrev pub listed : List ℕ → Read (List (List ℕ)) → Read (List ℕ)
  listed front r = r >>= λ vs. Ok (front ++ concat vs.0, vs.1)

  one_listed : (front v : List ℕ) (r : Read (List (List ℕ))) → listed front (r >>= λ vs. Ok (v ∷ vs.0, vs.1)) ≡ listed (front ++ v) r
  one_listed front v (Err stop) = refl
  one_listed front v (Ok vs) = ap (λ (x : List ℕ). Ok (x, vs.1)) (sym (append_assoc front v (concat vs.0)))

  then_listed : (front : List ℕ) (others : List ℕ → Read (List (List ℕ))) (r : Read (List ℕ)) → listed front (r >>= λ v. others v.1 >>= λ vs. Ok (v.0 ∷ vs.0, vs.1))
      ≡ (r >>= λ v. listed (front ++ v.0) (others v.1))
  then_listed front others (Err stop) = refl
  then_listed front others (Ok v) = one_listed front v.0 (others v.1)

  first_listed : (front : List ℕ) (n place : ℕ) (text : List ℕ) → place < n → test text ≡ true → listed front (many_read test leaf (n - place) text)
      ≡ (leaf.read text >>= λ v. listed (front ++ v.0) (many_read test leaf (n - (place + 1)) v.1))
  first_listed front n place text l t = ap (λ (k : ℕ). listed front (many_read test leaf k text)) {x = n - place} {y = suc (n - (place + 1))} (omega arith)
      ∙ ap (listed front) (cond-true (test text) _ _ t) ∙ then_listed front (many_read test leaf (n - (place + 1))) (leaf.read text)

  pub listed_ok : (front new : List ℕ) (n place : ℕ) (text rest : List ℕ) → place < n → test text ≡ true → Ok (new, rest) ≡ after_these front (leaf.read text)
      → listed front (many_read test leaf (n - place) text) ≡ listed new (many_read test leaf (n - (place + 1)) rest)
  listed_ok front new n place text rest l t e = first_listed front n place text l t ∙ by (leaf.read text) e
    where
      by : (r : Read (List ℕ)) → Ok (new, rest) ≡ after_these front r
          → (r >>= λ v. listed (front ++ v.0) (many_read test leaf (n - (place + 1)) v.1)) ≡ listed new (many_read test leaf (n - (place + 1)) rest)
      by (Err stop) e = cc
      by (Ok v) e = let same : (front ++ v.0, v.1) ≡ (new, rest) = cc in ap (λ (x : List ℕ × List ℕ). listed x.0 (many_read test leaf (n - (place + 1)) x.1)) same

  pub listed_err : (front : List ℕ) (n place : ℕ) (text : List ℕ) (stop : Stop) → place < n → test text ≡ true → Err stop ≡ after_these front (leaf.read text)
      → listed front (many_read test leaf (n - place) text) ≡ Err stop
  listed_err front n place text stop l t e = first_listed front n place text l t ∙ by (leaf.read text) e
    where
      by : (r : Read (List ℕ)) → Err stop ≡ after_these front r → (r >>= λ v. listed (front ++ v.0) (many_read test leaf (n - (place + 1)) v.1)) ≡ Err stop
      by (Err other) e = let same : other ≡ stop = cc in ap (λ stop. Err stop) same
      by (Ok v) e = cc

  pub none_listed : (front : List ℕ) (count : ℕ) (text : List ℕ) → test text ≡ false → listed front (many_read test leaf count text) ≡ Ok (front, text)
  none_listed front zero text t = ap (λ (x : List ℕ). Ok (x, text)) (append-nil front)
  none_listed front (suc count) text t = ap (listed front) (cond-false (test text) _ _ t) ∙ ap (λ (x : List ℕ). Ok (x, text)) (append-nil front)

  pub listed_is : (front : List ℕ) (r : Read (List (List ℕ))) → after_these front (r >>= λ vs. Ok (concat vs.0, vs.1)) ≡ listed front r
  listed_is front (Err stop) = refl
  listed_is front (Ok vs) = refl

-- bytes before those that a buffer was filled with
pub beside_read : {T : Type 0} (codes : T → List ℕ) (front found : List ℕ) (result : Result T Stop) (r : Read (List ℕ)) → filled_with codes found result ≡ r
    → filled_with codes (front ++ found) result ≡ (r >>= λ vs. Ok (front ++ vs.0, vs.1))
beside_read codes front found (Ok rest) r e = ap (λ r. r >>= λ vs. Ok (front ++ vs.0, vs.1)) e
beside_read codes front found (Err stop) r e = ap (λ r. r >>= λ vs. Ok (front ++ vs.0, vs.1)) e

pub apart_read : {T : Type 0} (codes : T → List ℕ) (letters : List ℕ) (n m byte : ℕ) (first found text rest : List ℕ) (result : Result T Stop) → n ≡ suc m → first ≡ byte ∷ []
    → Ok (byte ∷ [], rest) ≡ (pairs 1).read (at_digits text) → filled_with codes found result ≡ (behind_each letters 1 (pairs 1) m).read rest
    → filled_with codes (first ++ found) result ≡ (apart letters n).read text
apart_read codes letters n m byte first found text rest result size is e h =
    ap (λ (l : List ℕ). filled_with codes (l ++ found) result) is
    ∙ beside_read codes (byte ∷ []) found result ((behind_each letters 1 (pairs 1) m).read rest) h
    ∙ ap (λ r. r >>= λ v. (behind_each letters 1 (pairs 1) m).read v.1 >>= λ vs. Ok (v.0 ++ vs.0, vs.1)) e
    ∙ ap (λ (k : ℕ). (apart letters k).read text) (sym size)

-- how many letters there are before the end of a text that is read, and after it
abbrev halves : ℕ → List ℕ × List ℕ → List ℕ → Bool → List ℕ × List ℕ
halves c run cs b = cond b (c ∷ run.0, run.1) ([], c ∷ cs)

longer : (c : ℕ) (run : List ℕ × List ℕ) (cs : List ℕ) (b : Bool) → length run.0 + length run.1 ≡ length cs → length (halves c run cs b).0 + length (halves c run cs b).1 ≡ length (c ∷ cs)
longer c run cs true e = omega (arith, e)
longer c run cs false e = omega arith

pub clear_length : (stop : ℕ) (text : List ℕ) → length (clear_run stop text).0 + length (clear_run stop text).1 ≡ length text
clear_length stop [] = refl
clear_length stop (c ∷ cs) = longer c (clear_run stop cs) cs (is_clear stop c) (clear_length stop cs)

-- five readings, one after the other
abbrev pub then_more : (List ℕ → Read (List ℕ)) → List ℕ × List ℕ → Read (List ℕ)
then_more others v = others v.1 >>= λ vs. Ok (v.0 ++ vs.0, vs.1)

module _ (r1 r2 r3 r4 r5 : List ℕ → Read (List ℕ)) where
  abbrev pub five : List ℕ → Read (List ℕ)
  five t = r1 t >>= then_more (λ t. r2 t >>= then_more (λ t. r3 t >>= then_more (λ t. r4 t >>= then_more r5)))

  pub five_2 : (t : List ℕ) (a : List ℕ × List ℕ) (stop : Stop) → r1 t ≡ Ok a → r2 a.1 ≡ Err stop → five t ≡ Err stop
  five_2 t a stop p e = rw (p, e)

  pub five_3 : (t : List ℕ) (a b : List ℕ × List ℕ) (stop : Stop) → r1 t ≡ Ok a → r2 a.1 ≡ Ok b → r3 b.1 ≡ Err stop → five t ≡ Err stop
  five_3 t a b stop p q e = rw (p, q, e)

  pub five_4 : (t : List ℕ) (a b c : List ℕ × List ℕ) (stop : Stop) → r1 t ≡ Ok a → r2 a.1 ≡ Ok b → r3 b.1 ≡ Ok c → r4 c.1 ≡ Err stop → five t ≡ Err stop
  five_4 t a b c stop p q r e = rw (p, q, r, e)

  pub five_5 : (t : List ℕ) (a b c d : List ℕ × List ℕ) (stop : Stop) → r1 t ≡ Ok a → r2 a.1 ≡ Ok b → r3 b.1 ≡ Ok c → r4 c.1 ≡ Ok d → r5 d.1 ≡ Err stop
      → five t ≡ Err stop
  five_5 t a b c d stop p q r s e = rw (p, q, r, s, e)

  pub all_five : (t : List ℕ) (a b c d e : List ℕ × List ℕ) → r1 t ≡ Ok a → r2 a.1 ≡ Ok b → r3 b.1 ≡ Ok c → r4 c.1 ≡ Ok d → r5 d.1 ≡ Ok e
      → five t ≡ Ok (a.0 ++ (b.0 ++ (c.0 ++ (d.0 ++ e.0))), e.1)
  all_five t a b c d e p q r s u = rw (p, q, r, s, u)

-- letters and zeros up to 32 bytes, or more letters
module _ (stop : ℕ) (front text : List ℕ) where
  abbrev run : List ℕ
  run = (clear_run stop text).0

  abbrev left : List ℕ
  left = (clear_run stop text).1

  abbrev if_few : Bool → Read (List ℕ)
  if_few b = after_these front (tested b run left text (expected.Letters 32) >>= λ v. Ok (padded v.0, v.1))

  pub padded_few : (count : ℕ) → length run ≡ count → count ≤ 32 → Ok ((front ++ run) ++ replicate (32 - count) 0, left) ≡ after_these front ((padded_text stop).read text)
  padded_few count size few =
      let fits : nat_le (length run) 32 ≡ true = grind (arith, nat_tests) in
      ap (λ (l : List ℕ). Ok (l, left)) (append_assoc front run (replicate (32 - count) 0) ∙ ap (λ (n : ℕ). front ++ (run ++ replicate (32 - n) 0)) (sym size))
      ∙ ap if_few (sym fits)

  pub padded_many : (count : ℕ) → length run ≡ count → 32 < count → Err (stop_at text (expected.Letters 32)) ≡ after_these front ((padded_text stop).read text)
  padded_many count size many =
      let more : nat_le (length run) 32 ≡ false = grind (arith, nat_tests) in
      ap if_few (sym more)

-- bytes of which there is one
pub some_same : (text : List ℕ) → has_pair text ≡ true → ((many has_pair pair).read text >>= some) ≡ (many has_pair pair).read text
some_same [] t = cc
some_same (c ∷ cs) t = ap (λ r. r >>= some) (cond-true (has_pair (c ∷ cs)) _ _ t) ∙ by (pair.read (c ∷ cs)) ∙ sym (cond-true (has_pair (c ∷ cs)) _ _ t)
  where
    others : (v : ℕ × List ℕ) (r : Read (List ℕ)) → ((r >>= λ vs. Ok (v.0 ∷ vs.0, vs.1)) >>= some) ≡ (r >>= λ vs. Ok (v.0 ∷ vs.0, vs.1))
    others v (Err stop) = refl
    others v (Ok vs) = refl

    by : (r : Read ℕ) → ((r >>= λ v. many_read has_pair pair (length cs) v.1 >>= λ vs. Ok (v.0 ∷ vs.0, vs.1)) >>= some)
        ≡ (r >>= λ v. many_read has_pair pair (length cs) v.1 >>= λ vs. Ok (v.0 ∷ vs.0, vs.1))
    by (Err stop) = refl
    by (Ok v) = others v (many_read has_pair pair (length cs) v.1)

no_some : (text : List ℕ) → has_pair text ≡ false → ((many has_pair pair).read text >>= some) ≡ Err (stop_at text (expected.Digits 2))
no_some [] t = refl
no_some (c ∷ cs) t = ap (λ r. r >>= some) (cond-false (has_pair (c ∷ cs)) _ _ t)

pub comma_some : (text : List ℕ) → has_comma text ≡ true → has_pair (at_digits (after_first (past_blanks text))) ≡ true
    → bytes_after_comma.read text ≡ (many has_pair pair).read (at_digits (after_first (past_blanks text)))
comma_some text c t = cond-true (has_comma text) _ _ c ∙ some_same (at_digits (after_first (past_blanks text))) t

pub comma_none : (text : List ℕ) → has_comma text ≡ true → has_pair (at_digits (after_first (past_blanks text))) ≡ false
    → bytes_after_comma.read text ≡ Err (stop_at (at_digits (after_first (past_blanks text))) (expected.Digits 2))
comma_none text c t = cond-true (has_comma text) _ _ c ∙ no_some (at_digits (after_first (past_blanks text))) t

-- what a step adds to data
pub tail_added : {T : Type 0} (codes : T → List ℕ) (fixed old found : List ℕ) (result : Result T Stop) (read : Read (List ℕ)) → filled_with codes found result ≡ after_these old read
    → filled_with {V = List ℕ × List ℕ} codes (fixed, found) result ≡ (read >>= λ v. Ok ((fixed, old ++ v.0), v.1))
tail_added codes fixed old found (Ok rest) (Ok v) e = let same : (found, codes rest) ≡ (old ++ v.0, v.1) = cc in ap (λ (x : List ℕ × List ℕ). Ok ((fixed, x.0), x.1)) same
tail_added codes fixed old found (Ok rest) (Err stop) e = cc
tail_added codes fixed old found (Err stop) (Ok v) e = cc
tail_added codes fixed old found (Err stop) (Err other) e = let same : stop ≡ other = cc in ap (λ stop. Err stop) same
