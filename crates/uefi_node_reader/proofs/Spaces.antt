-- Texts without the blanks and line ends at their start or their end.
use Rattle.std.proofs.Common.{◌≡◌, ℕ, ◌+◌, ◌-◌, ◌<◌, ◌≤◌, Bool, true, false, cond, List, [], ◌∷◌, ◌++◌, length, take, get_or, inl, inr, refl, sym, ap, ◌∙◌, append_assoc, arith}
use Rattle.std.specs.Char.{is_ascii_whitespace}
use Rattle.std.specs.List.{suffix_len}
use Rattle.std.proofs.lemmas.Bool.{cases_lt}
use Rattle.std.proofs.lemmas.Grind.{common_steps}
use Rattle.std.proofs.lemmas.List.Sums.{suffix_len_is}
use Rattle.uefi_node_reader.specs.NamedFiles.{before_spaces, ends_name, is_after_node, past_spaces}
use Rattle.uefi_node_reader.specs.LenientNodes.{IsRestOf}

-- the end of a text
abbrev pub IsEnd : List ℕ → List ℕ → Type 0
IsEnd text rest = (front : List ℕ) × (text ≡ front ++ rest)

pub whole_end : (text : List ℕ) → IsEnd text text
whole_end text = ([], refl)

-- what stands after blanks ends the text
pub spaces_end : (text : List ℕ) → IsEnd text (past_spaces text)
spaces_end [] = whole_end []
spaces_end (c ∷ cs) = by (is_ascii_whitespace c) (spaces_end cs)
  where
    by : (b : Bool) → IsEnd cs (past_spaces cs) → IsEnd (c ∷ cs) (cond b (past_spaces cs) (c ∷ cs))
    by true h = (c ∷ h.0, ap (λ (t : List ℕ). c ∷ t) h.1)
    by false h = whole_end (c ∷ cs)

-- the end of what stands after one byte or more
pub rest_then : (text middle rest : List ℕ) → IsRestOf text middle → IsEnd middle rest → IsRestOf text rest
rest_then text middle rest (c, front, p) (others, q) =
    (c, front ++ others, p ∙ ap (λ (t : List ℕ). c ∷ t) (ap (λ (t : List ℕ). front ++ t) q ∙ sym (append_assoc front others rest)))

-- no blank stands where a node may end
spaces_at : (c : ℕ) → ends_name c ≡ true → is_ascii_whitespace c ≡ false
spaces_at c e = grind (arith, common_steps)

pub past_spaces-after : (text : List ℕ) → is_after_node text ≡ true → past_spaces text ≡ text
past_spaces-after [] e = refl
past_spaces-after (c ∷ cs) e = ap (λ (b : Bool). cond b (past_spaces cs) (c ∷ cs)) (spaces_at c e)

-- the end of the last byte before `place` that is no blank, or 0
pub record LastSeen (text : List ℕ) (place end : ℕ) : Type 0 where
  pub within : end ≤ place
  pub blank : (k : ℕ) → end ≤ k → k < place → is_ascii_whitespace (get_or text k 0) ≡ true
  pub stops : 0 < end → is_ascii_whitespace (get_or text (end - 1) 0) ≡ false

module _ (text : List ℕ) (place end : ℕ) (seen : LastSeen text place end) where
  pub seen_blank : is_ascii_whitespace (get_or text place 0) ≡ true → LastSeen text (place + 1) end
  seen_blank is = record {
    within = omega (arith, seen.within);
    blank = λ k from to. elim (cases_lt k place) [
      | inl less ↦ seen.blank k from less
      | inr more ↦ let same : place ≡ k = omega (arith, to, more) in ap (λ (n : ℕ). is_ascii_whitespace (get_or text n 0)) (sym same) ∙ is
    ];
    stops = seen.stops;
  }

  pub seen_other : is_ascii_whitespace (get_or text place 0) ≡ false → LastSeen text (place + 1) (place + 1)
  seen_other other =
      let before : place + 1 - 1 ≡ place = omega arith in record {
        within = omega arith;
        blank = λ k from to. absurd (omega (arith, from, to));
        stops = λ some. ap (λ (n : ℕ). is_ascii_whitespace (get_or text n 0)) before ∙ other;
      }

pub seen_all : (text : List ℕ) (end : ℕ) → LastSeen text (length text) end → take end text ≡ before_spaces text
seen_all text end seen =
    let blanks = suffix_len_is is_ascii_whitespace text end 0 seen.within seen.blank seen.stops in
    let left : end ≡ length text - suffix_len is_ascii_whitespace text = omega (arith, blanks, seen.within) in
    ap (λ (n : ℕ). take n text) left
