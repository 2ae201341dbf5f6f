-- Data after the fields are read back, and what is read is printed so.
use Rattle.std.proofs.Common.{◌≡◌, ℕ, ◌+◌, ◌*◌, ◌/◌, ◌%◌, ◌<◌, Bool, true, false, cond, eqb, ltb, ◌&&◌, List, [], ◌∷◌, ◌++◌, refl, ap, sym, subst, ◌∙◌, append_assoc, arith}
use Rattle.std.proofs.lemmas.Bool.{and_parts, not-true}
use Rattle.std.specs.Prelude.{All, Some, not}
use Rattle.std.specs.Fmt.{digit_glyph}
use Rattle.std.specs.List.{flat_map, list_all}
use Rattle.std.proofs.lemmas.List.Elements.{All-append, All-nil, All-cons, All-head, All-tail}
use borrow.Author.Tests.{eqb-true, lt-ltb, ltb-true}
use Rattle.uefi_text.specs.Packed.{IsByte}
use Rattle.uefi_text.specs.UnitBytes.{unit_bytes}
use Rattle.uefi_device_nodes.specs.FieldTexts.{comma_bytes, hex_bytes, hex_two, shown_bytes, until_nul, utf16_text}
use Rattle.uefi_node_reader.specs.Numerals.{digit_of, has_digit}
use Rattle.uefi_node_reader.specs.WordReading.{clash}
use Rattle.uefi_node_reader.proofs.Literals.{clash_none}
use Rattle.uefi_node_reader.proofs.ListLaws.{apart, list_again, list_starts, list_takes, sound_items}
use Rattle.uefi_node_reader.specs.TableReading.{begins_apart, ends_tail, is_open}
use Rattle.uefi_device_nodes.specs.Rows.{item_of, tail_text}
use Rattle.uefi_node_reader.specs.FieldReading.{clear_run, comma_read, is_clear, run_read, some_run}
use Rattle.uefi_node_reader.specs.TableReading.{IsTailTold, as_name, as_units, first_of, tail_read}
use Rattle.uefi_device_nodes.specs.declared.node_table.rows.Tail.{Tail}
use Rattle.uefi_device_nodes.specs.declared.node_table.rows.Tail.TheVariants.{Nothing, Bytes, Text, Utf16, Name, Padded, Ids, Repeated}
use Rattle.uefi_node_reader.proofs.Digits.{hexadecimal, some_pair}
use Rattle.uefi_node_reader.proofs.ClearTexts.{clear_again, clear_bytes, clear_takes, clear_units, name_clear, shown_clear, utf16_clear}
use Rattle.uefi_node_reader.proofs.TextTails.{ids_again, ids_takes, padded_again, padded_takes}
use Rattle.uefi_device_nodes.proofs.GuidTexts.{two_digits}

run_end : (c : ℕ) (cs rest : List ℕ) → ltb (digit_of c) 16 ≡ false → run_read ((c ∷ cs) ++ rest) ≡ ([], (c ∷ cs) ++ rest)
run_end c cs rest e = by (cs ++ rest)
  where
    by : (tail : List ℕ) → run_read (c ∷ tail) ≡ ([], c ∷ tail)
    by [] = refl
    by (d ∷ ds) =
        let found : List ℕ × List ℕ = ((digit_of c * 16 + digit_of d) ∷ (run_read ds).0, (run_read ds).1) in
        let left : List ℕ × List ℕ = ([], c ∷ d ∷ ds) in
        ap (λ (t : Bool). cond (t && ltb (digit_of d) 16) found left) e

run_again : (bytes : List ℕ) → All IsByte bytes → (c : ℕ) (cs rest : List ℕ) → ltb (digit_of c) 16 ≡ false
    → run_read (hex_bytes bytes ++ ((c ∷ cs) ++ rest)) ≡ (bytes, (c ∷ cs) ++ rest)
unfolding hex_bytes
run_again [] all c cs rest e = run_end c cs rest e
run_again (b ∷ bs) all c cs rest e =
    let small = All-head IsByte b bs all in
    let others = run_again bs (All-tail IsByte b bs all) c cs rest e in
    let tail : List ℕ = flat_map hex_two bs ++ ((c ∷ cs) ++ rest) in
    let x = hexadecimal.reads (b / 16) (omega arith) in
    let y = hexadecimal.reads (b % 16) (omega arith) in
    let whole : b / 16 * 16 + b % 16 ≡ b = omega arith in
    let left : List ℕ × List ℕ = ([], digit_glyph true (b / 16) ∷ digit_glyph true (b % 16) ∷ tail) in
    let found : ℕ → List ℕ × List ℕ = λ n. (n ∷ (run_read tail).0, (run_read tail).1) in
    ap run_read (append_assoc (hex_two b) (flat_map hex_two bs) ((c ∷ cs) ++ rest))
    ∙ ap (λ (l : List ℕ). run_read (l ++ tail)) (two_digits b small)
    ∙ (λ i. cond (ltb (x i) 16 && ltb (y i) 16) (found (x i * 16 + y i)) left)
    ∙ (λ i. cond (lt-ltb (b / 16) 16 (omega arith) i && lt-ltb (b % 16) 16 (omega arith) i) (found (whole i)) left)
    ∙ (λ i. (b ∷ (others i).0, (others i).1))

pub run_takes : (text : List ℕ) → (text ≡ hex_bytes (run_read text).0 ++ (run_read text).1) × All IsByte (run_read text).0
unfolding hex_bytes
run_takes [] = (refl, All-nil IsByte)
run_takes (a ∷ []) = (refl, All-nil IsByte)
run_takes (a ∷ b ∷ text) = by (ltb (digit_of a) 16) (ltb (digit_of b) 16) refl refl (run_takes text)
  where
    found : List ℕ × List ℕ
    found = ((digit_of a * 16 + digit_of b) ∷ (run_read text).0, (run_read text).1)

    left : List ℕ × List ℕ
    left = ([], a ∷ b ∷ text)

    Is : List ℕ × List ℕ → Type 0
    Is r = (a ∷ b ∷ text ≡ flat_map hex_two r.0 ++ r.1) × All IsByte r.0

    by : (t s : Bool) → ltb (digit_of a) 16 ≡ t → ltb (digit_of b) 16 ≡ s
        → (text ≡ flat_map hex_two (run_read text).0 ++ (run_read text).1) × All IsByte (run_read text).0
        → Is (cond (ltb (digit_of a) 16 && ltb (digit_of b) 16) found left)
    by t s p q h = subst (λ (c : Bool). Is (cond (c && ltb (digit_of b) 16) found left)) (sym p) (subst (λ (c : Bool). Is (cond (t && c) found left)) (sym q) (at t s p q h))
      where
        at : (t s : Bool) → ltb (digit_of a) 16 ≡ t → ltb (digit_of b) 16 ≡ s
            → (text ≡ flat_map hex_two (run_read text).0 ++ (run_read text).1) × All IsByte (run_read text).0
            → Is (cond (t && s) found left)
        at false s p q h = (refl, All-nil IsByte)
        at true false p q h = (refl, All-nil IsByte)
        at true true p q h =
            let low = ltb-true _ _ p in
            let high = ltb-true _ _ q in
            let byte : ℕ = digit_of a * 16 + digit_of b in
            let small : byte < 256 = omega arith in
            let first : byte / 16 ≡ digit_of a = omega arith in
            let second : byte % 16 ≡ digit_of b = omega arith in
            let heads : hex_two byte ≡ a ∷ b ∷ [] = two_digits byte small ∙ (λ i. (ap (λ (d : ℕ). digit_glyph true d) first
            ∙ hexadecimal.writes a low) i ∷ (ap (λ (d : ℕ). digit_glyph true d) second ∙ hexadecimal.writes b high) i ∷ []) in (
              ap (λ (l : List ℕ). a ∷ b ∷ l) h.0 ∙ ap (λ (l : List ℕ). l ++ (flat_map hex_two (run_read text).0 ++ (run_read text).1)) (sym heads)
                  ∙ sym (append_assoc (hex_two byte) (flat_map hex_two (run_read text).0) (run_read text).1),
              All-cons IsByte byte (run_read text).0 small h.1,
            )

pub comma_again : (bytes : List ℕ) → All IsByte bytes → (c : ℕ) (cs rest : List ℕ) → ltb (digit_of c) 16 ≡ false → eqb c 44 ≡ false
    → comma_read (comma_bytes bytes ++ ((c ∷ cs) ++ rest)) ≡ Some (bytes, (c ∷ cs) ++ rest)
unfolding comma_bytes
comma_again [] all c cs rest e f = ap (λ (t : Bool). cond t (some_run (run_read (cs ++ rest)).0 (run_read (cs ++ rest)).1) (Some ([], c ∷ (cs ++ rest)))) f
comma_again (b ∷ bs) all c cs rest e f = (λ i. some_run (run_again (b ∷ bs) all c cs rest e i).0 (run_again (b ∷ bs) all c cs rest e i).1)

pub comma_takes : (text bytes rest : List ℕ) → comma_read text ≡ Some (bytes, rest) → (text ≡ comma_bytes bytes ++ rest) × All IsByte bytes
unfolding comma_bytes
comma_takes [] bytes rest e =
    let same = some_pair ([], []) (bytes, rest) e in
    ((λ i. no_bytes (same.0 i) ++ same.1 i), subst (λ (x : List ℕ). All IsByte x) same.0 (All-nil IsByte))
  where
    no_bytes : List ℕ → List ℕ
    no_bytes bytes = comma_bytes bytes
comma_takes (c ∷ cs) bytes rest e = by (eqb c 44) refl e (run_takes cs)
  where
    Taken : Type 0
    Taken = (c ∷ cs ≡ comma_bytes bytes ++ rest) × All IsByte bytes

    some : (run t : List ℕ) → (cs ≡ hex_bytes run ++ t) × All IsByte run → c ≡ 44 → some_run run t ≡ Some (bytes, rest) → Taken
    some [] t h q p = cc
    some (b ∷ bs) t h q p =
        let same = some_pair (b ∷ bs, t) (bytes, rest) p in
        ((λ i. q i ∷ h.0 i) ∙ (λ i. comma_bytes (same.0 i) ++ same.1 i), subst (λ (x : List ℕ). All IsByte x) same.0 h.1)

    by : (t : Bool) → eqb c 44 ≡ t → cond t (some_run (run_read cs).0 (run_read cs).1) (Some ([], c ∷ cs)) ≡ Some (bytes, rest)
        → (cs ≡ hex_bytes (run_read cs).0 ++ (run_read cs).1) × All IsByte (run_read cs).0 → Taken
    by true p q h = some (run_read cs).0 (run_read cs).1 h (eqb-true c 44 p) q
    by false p q h =
        let same = some_pair ([], c ∷ cs) (bytes, rest) q in
        ((λ i. comma_bytes (same.0 i) ++ same.1 i), subst (λ (x : List ℕ). All IsByte x) same.0 (All-nil IsByte))

-- what stands after a list, or in place of one
pub tail_starts : (tail : Tail) (close bytes rest : List ℕ) → ends_tail tail close ≡ true → is_open tail ≡ true
    → has_digit 16 (tail_text tail bytes ++ (close ++ rest)) ≡ false
tail_starts Nothing close bytes rest e o = cc
tail_starts Bytes close bytes rest e o = cc
tail_starts Text close bytes rest e o = cc
tail_starts Utf16 close bytes rest e o = cc
tail_starts Name close bytes rest e o = cc
tail_starts Padded close bytes rest e o = cc
tail_starts Ids close bytes rest e o = cc
tail_starts (Repeated items) close bytes rest e o =
    let parts = and_parts (clash (item_of items).start close) (begins_apart close) e in
    list_starts (item_of items) (sound_items items) bytes (close ++ rest) (apart close rest parts.1)

pub tail_again : (tail : Tail) (close bytes rest : List ℕ) → ends_tail tail close ≡ true → All IsByte bytes → IsTailTold tail close bytes
    → tail_read tail close (tail_text tail bytes ++ (close ++ rest)) ≡ Some (bytes, close ++ rest)
tail_again Nothing close bytes rest e all told = λ i. Some (sym told i, close ++ rest)
tail_again Text [] bytes rest e all told = cc
tail_again Text (c ∷ cs) bytes rest e all told =
    ap (λ (x : List ℕ). Some (clear_run c (x ++ ((c ∷ cs) ++ rest)))) (shown_clear c bytes told)
    ∙ ap (λ (x : List ℕ × List ℕ). Some x) (clear_again c bytes (cs ++ rest) told)
tail_again Utf16 [] bytes rest e all told = cc
tail_again Utf16 (c ∷ cs) bytes rest e all told =
    ap (λ (x : List ℕ). as_units (clear_run c (x ++ ((c ∷ cs) ++ rest)))) (ap utf16_text told.1.0 ∙ utf16_clear c told.0 told.1.1)
    ∙ ap as_units (clear_again c told.0 (cs ++ rest) told.1.1) ∙ (λ i. Some (sym told.1.0 i, (c ∷ cs) ++ rest))
tail_again Name [] bytes rest e all told = cc
tail_again Name (c ∷ cs) bytes rest e all told =
    ap (λ (x : List ℕ). as_name (clear_run c (x ++ ((c ∷ cs) ++ rest)))) (ap (λ (x : List ℕ). shown_bytes (until_nul x)) told.1.0 ∙ name_clear c told.0 told.1.1)
    ∙ ap as_name (clear_again c told.0 (cs ++ rest) told.1.1) ∙ (λ i. Some (sym told.1.0 i, (c ∷ cs) ++ rest))
tail_again Padded [] bytes rest e all told = cc
tail_again Padded (c ∷ cs) bytes rest e all told = padded_again c cs bytes rest told
tail_again Ids [] bytes rest e all told = cc
tail_again Ids (c ∷ cs) bytes rest e all told = ids_again c cs bytes rest told
tail_again (Repeated items) close bytes rest e all told =
    let parts = and_parts (clash (item_of items).start close) (begins_apart close) e in
    list_again (item_of items) (sound_items items) bytes told all (close ++ rest)
    (clash_none (item_of items).start close rest parts.0) (apart close rest parts.1)
tail_again Bytes [] bytes rest e all told = cc
tail_again Bytes (c ∷ cs) bytes rest e all told =
    let parts = and_parts (not (ltb (digit_of c) 16)) (not (eqb c 44)) e in
    comma_again bytes all c cs rest (not-true _ parts.0) (not-true _ parts.1)

pub tail_takes : (tail : Tail) (close text bytes rest : List ℕ) → tail_read tail close text ≡ Some (bytes, rest)
    → (text ≡ tail_text tail bytes ++ rest) × (All IsByte bytes) × (IsTailTold tail close bytes)
tail_takes Nothing close text bytes rest e =
    let same = some_pair ([], text) (bytes, rest) e in (same.1, subst (λ (x : List ℕ). All IsByte x) same.0 (All-nil IsByte), sym same.0)
tail_takes Bytes close text bytes rest e = let read = comma_takes text bytes rest e in (read.0, read.1, tt)
tail_takes Text close text bytes rest e =
    let stop : ℕ = first_of close in
    let run = clear_takes stop text in
    let same = some_pair (clear_run stop text) (bytes, rest) e in
    let told : list_all (is_clear stop) bytes ≡ true = ap (λ (x : List ℕ). list_all (is_clear stop) x) (sym same.0) ∙ run.1 in
    (run.0 ∙ (λ i. same.0 i ++ same.1 i) ∙ ap (λ (x : List ℕ). x ++ rest) (sym (shown_clear stop bytes told)), clear_bytes stop bytes told, told)
tail_takes Utf16 close text bytes rest e =
    let stop : ℕ = first_of close in
    let run = clear_takes stop text in
    let name : List ℕ = (clear_run stop text).0 in
    let same = some_pair (unit_bytes name, (clear_run stop text).1) (bytes, rest) e in (
      run.0 ∙ ap (λ (x : List ℕ). x ++ (clear_run stop text).1) (sym (utf16_clear stop name run.1)) ∙ (λ i. utf16_text (same.0 i) ++ same.1 i),
      subst (λ (x : List ℕ). All IsByte x) same.0 (clear_units stop name run.1),
      (name, (sym same.0, run.1)),
    )
tail_takes (Repeated items) close text bytes rest e = list_takes (item_of items) (sound_items items) text bytes rest e
tail_takes Name close text bytes rest e =
    let stop : ℕ = first_of close in
    let run = clear_takes stop text in
    let name : List ℕ = (clear_run stop text).0 in
    let same = some_pair (name ++ 0 ∷ [], (clear_run stop text).1) (bytes, rest) e in (
      run.0 ∙ ap (λ (x : List ℕ). x ++ (clear_run stop text).1) (sym (name_clear stop name run.1)) ∙ (λ i. shown_bytes (until_nul (same.0 i)) ++ same.1 i),
      subst (λ (x : List ℕ). All IsByte x) same.0 (All-append IsByte name (0 ∷ []) (clear_bytes stop name run.1) (All-cons IsByte 0 [] (omega arith) (All-nil IsByte))),
      (name, (sym same.0, run.1)),
    )
tail_takes Padded close text bytes rest e = padded_takes close text bytes rest e
tail_takes Ids close text bytes rest e = ids_takes close text bytes rest e
