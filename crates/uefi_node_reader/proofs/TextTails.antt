-- Texts with zeros after them, as they lie after the fields of a node, are read back.
use Rattle.std.proofs.Common.{◌≡◌, ℕ, zero, suc, ◌+◌, ◌-◌, ◌≤◌, Bool, true, false, cond, leb, List, [], ◌∷◌, ◌++◌, codes, length, length-append, take, refl, ap, sym, subst, ◌∙◌, append_assoc, arith}
use Rattle.std.proofs.Math.ListN.{replicate, length-replicate}
use Rattle.std.proofs.lemmas.List.{drop_at, take_all, take_at}
use Rattle.std.proofs.lemmas.List.Elements.{All-append, All-cons, All-nil}
use Rattle.std.specs.List.{list_all, position_or_len}
use Rattle.std.specs.Prelude.{All, drop, Option, Some, None}
use borrow.Author.Tests.{leb-true}
use Rattle.uefi_text.specs.Packed.{IsByte}
use Rattle.uefi_text.specs.Units.{is_nul}
use Rattle.uefi_device_nodes.specs.FieldTexts.{after_nul, id_strings_text, shown_bytes, until_nul}
use Rattle.uefi_device_nodes.specs.Rows.{tail_text}
use Rattle.uefi_device_nodes.specs.declared.node_table.rows.Tail.TheVariants.{Ids, Padded}
use Rattle.uefi_node_reader.specs.FieldReading.{◌>>=◌, clear_run, is_clear}
use Rattle.uefi_node_reader.specs.TableReading.{IsTailTold, as_ids, as_padded, first_of, ids_read, padded, tail_read}
use Rattle.uefi_node_reader.specs.WordReading.{after}
use Rattle.uefi_node_reader.proofs.ClearTexts.{clear_again, clear_bytes, clear_no_nul, clear_takes, shown_clear}
use Rattle.uefi_node_reader.proofs.Digits.{some_pair}
use Rattle.uefi_node_reader.proofs.Literals.{after_takes, bind_some}
use Rattle.uefi_node_reader.proofs.NamedFiles.{place_of}

-- the test for clear characters, as texts have them
abbrev clear : ℕ → List ℕ → Type 0
clear stop text = list_all (is_clear stop) text ≡ true

zeros : (count : ℕ) → All IsByte (replicate count 0)
zeros zero = All-nil IsByte
zeros (suc count) = All-cons IsByte 0 (replicate count 0) (omega arith) (zeros count)

-- a text goes on to its first zero
cut : (stop : ℕ) (text rest : List ℕ) → clear stop text → position_or_len is_nul rest ≡ 0
    → (until_nul (text ++ rest) ≡ text) × (position_or_len is_nul (text ++ rest) ≡ length text)
cut stop text rest e none =
    let place = place_of is_nul text rest (clear_no_nul stop text e) none in
    (ap (λ (n : ℕ). take n (text ++ rest)) place ∙ take_at text rest (length text) refl, place)

next : (stop : ℕ) (text rest : List ℕ) → clear stop text → after_nul (text ++ 0 ∷ rest) ≡ rest
next stop text rest e =
    let place = (cut stop text (0 ∷ rest) e refl).1 in
    let size : length (text ++ 0 ∷ []) ≡ length text + 1 = length-append text (0 ∷ []) in
    ap (λ (n : ℕ). drop (n + 1) (text ++ 0 ∷ rest)) place
    ∙ ap (λ (x : List ℕ). drop (length text + 1) x) (sym (append_assoc text (0 ∷ []) rest))
    ∙ drop_at (text ++ 0 ∷ []) rest (length text + 1) size

-- a text in 32 bytes
padded_shown : (stop : ℕ) (text : List ℕ) → length text ≤ 32 → clear stop text → shown_bytes (until_nul (take 32 (padded text))) ≡ text
padded_shown stop text short e =
    let count : ℕ = 32 - length text in
    let size : length (padded text) ≡ 32 = length-append text (replicate count 0) ∙ ap (λ (n : ℕ). length text + n) (length-replicate count 0) ∙ omega (arith, short) in
    ap (λ (x : List ℕ). shown_bytes (until_nul x)) (take_all 32 (padded text) (omega (arith, size)))
    ∙ ap shown_bytes (cut stop text (replicate count 0) e (first count)).0 ∙ shown_clear stop text e
  where
    first : (count : ℕ) → position_or_len is_nul (replicate count 0) ≡ 0
    first zero = refl
    first (suc count) = refl

pub padded_again : (c : ℕ) (cs bytes rest : List ℕ) → IsTailTold Padded (c ∷ cs) bytes
    → tail_read Padded (c ∷ cs) (tail_text Padded bytes ++ ((c ∷ cs) ++ rest)) ≡ Some (bytes, (c ∷ cs) ++ rest)
padded_again c cs bytes rest told =
    let text : List ℕ = told.0 in
    let short = leb-true (length text) 32 told.2 in
    let end : List ℕ = (c ∷ cs) ++ rest in
    let found : Option (List ℕ × List ℕ) = Some (padded text, end) in
    ap (λ (b : List ℕ). as_padded (clear_run c (shown_bytes (until_nul (take 32 b)) ++ end))) told.1
    ∙ ap (λ (x : List ℕ). as_padded (clear_run c (x ++ end))) (padded_shown c text short told.3)
    ∙ ap as_padded (clear_again c text (cs ++ rest) told.3)
    ∙ ap (λ (t : Bool). cond t found None) told.2
    ∙ ap (λ (b : List ℕ). Some (b, end)) (sym told.1)

pub padded_takes : (close text bytes rest : List ℕ) → tail_read Padded close text ≡ Some (bytes, rest)
    → (text ≡ tail_text Padded bytes ++ rest) × (All IsByte bytes) × (IsTailTold Padded close bytes)
padded_takes close text bytes rest e = by (leb (length name) 32) refl e
  where
    stop : ℕ
    stop = first_of close

    name : List ℕ
    name = (clear_run stop text).0

    left : List ℕ
    left = (clear_run stop text).1

    found : Option (List ℕ × List ℕ)
    found = Some (padded name, left)

    by : (t : Bool) → leb (length name) 32 ≡ t → cond t found None ≡ Some (bytes, rest)
        → (text ≡ tail_text Padded bytes ++ rest) × (All IsByte bytes) × (IsTailTold Padded close bytes)
    by false p q = cc
    by true p q =
        let run = clear_takes stop text in
        let same = some_pair (padded name, left) (bytes, rest) q in
        let shown = padded_shown stop name (leb-true (length name) 32 p) run.1 in (
          run.0 ∙ ap (λ (x : List ℕ). x ++ left) (sym shown) ∙ (λ i. tail_text Padded (same.0 i) ++ same.1 i),
          subst (λ (x : List ℕ). All IsByte x) same.0 (All-append IsByte name (replicate (32 - length name) 0) (clear_bytes stop name run.1) (zeros (32 - length name))),
          (name, sym same.0, p, run.1),
        )

-- the strings of IDs
ids_shown : (stop : ℕ) (hid cid uid rest : List ℕ) → clear 44 hid → clear 44 cid → clear stop uid
    → id_strings_text (as_ids hid cid uid) ++ rest ≡ hid ++ (codes "," ++ (cid ++ (codes "," ++ (uid ++ rest))))
unfolding id_strings_text
ids_shown stop hid cid uid rest h c u =
    let all : List ℕ = as_ids hid cid uid in
    let after_hid : List ℕ = uid ++ (0 ∷ (cid ++ (0 ∷ []))) in
    let after_uid : List ℕ = cid ++ (0 ∷ []) in
    let first : until_nul all ≡ hid = (cut 44 hid (0 ∷ after_hid) h refl).0 in
    let second : after_nul all ≡ after_hid = next 44 hid after_hid h in
    let third : until_nul (after_nul all) ≡ uid = ap until_nul-of second ∙ (cut stop uid (0 ∷ after_uid) u refl).0 in
    let fourth : until_nul (after_nul (after_nul all)) ≡ cid = ap (λ (x : List ℕ). until_nul (after_nul x)) second
    ∙ ap until_nul-of (next stop uid after_uid u) ∙ (cut 44 cid (0 ∷ []) c refl).0 in
    (λ i. (shown_bytes (first i) ++ (codes "," ++ (shown_bytes (fourth i) ++ (codes "," ++ shown_bytes (third i))))) ++ rest)
    ∙ (λ i. (shown_clear 44 hid h i ++ (codes "," ++ (shown_clear 44 cid c i ++ (codes "," ++ shown_clear stop uid u i)))) ++ rest)
    ∙ simp append_assoc
  where
    until_nul-of : List ℕ → List ℕ
    until_nul-of x = until_nul x

pub ids_again : (c : ℕ) (cs bytes rest : List ℕ) → IsTailTold Ids (c ∷ cs) bytes
    → tail_read Ids (c ∷ cs) (tail_text Ids bytes ++ ((c ∷ cs) ++ rest)) ≡ Some (bytes, (c ∷ cs) ++ rest)
ids_again c cs bytes rest told =
    let hid : List ℕ = told.0 in
    let cid : List ℕ = told.1 in
    let uid : List ℕ = told.2 in
    let end : List ℕ = (c ∷ cs) ++ rest in
    let last : List ℕ = uid ++ end in
    let middle : List ℕ = cid ++ (codes "," ++ last) in
    ap (λ (b : List ℕ). ids_read c (id_strings_text b ++ end)) told.3
    ∙ ap (λ (x : List ℕ). ids_read c x) (ids_shown c hid cid uid end told.4 told.5 told.6)
    ∙ ap (λ (r : List ℕ × List ℕ). after (codes ",") r.1 >>= λ t. after (codes ",") (clear_run 44 t).1 >>= λ u.
    Some (as_ids r.0 (clear_run 44 t).0 (clear_run c u).0, (clear_run c u).1)) (clear_again 44 hid middle told.4)
    ∙ ap (λ (r : List ℕ × List ℕ). after (codes ",") r.1 >>= λ u. Some (as_ids hid r.0 (clear_run c u).0, (clear_run c u).1)) (clear_again 44 cid last told.5)
    ∙ ap (λ (r : List ℕ × List ℕ). Some (as_ids hid cid r.0, r.1)) (clear_again c uid (cs ++ rest) told.6)
    ∙ ap (λ (b : List ℕ). Some (b, end)) (sym told.3)

pub ids_takes : (close text bytes rest : List ℕ) → tail_read Ids close text ≡ Some (bytes, rest)
    → (text ≡ tail_text Ids bytes ++ rest) × (All IsByte bytes) × (IsTailTold Ids close bytes)
ids_takes close text bytes rest e =
    let stop : ℕ = first_of close in
    let hid : List ℕ = (clear_run 44 text).0 in
    let h = clear_takes 44 text in
    let p = bind_some (after (codes ",") (clear_run 44 text).1) (λ t. after (codes ",") (clear_run 44 t).1 >>= λ u.
    Some (as_ids hid (clear_run 44 t).0 (clear_run stop u).0, (clear_run stop u).1)) (bytes, rest) e in
    let cid : List ℕ = (clear_run 44 p.0).0 in
    let c = clear_takes 44 p.0 in
    let q = bind_some (after (codes ",") (clear_run 44 p.0).1) (λ u. Some (as_ids hid cid (clear_run stop u).0, (clear_run stop u).1)) (bytes, rest) p.2 in
    let uid : List ℕ = (clear_run stop q.0).0 in
    let left : List ℕ = (clear_run stop q.0).1 in
    let u = clear_takes stop q.0 in
    let same = some_pair (as_ids hid cid uid, left) (bytes, rest) q.2 in
    let last : (clear_run 44 p.0).1 ≡ codes "," ++ (uid ++ left) = after_takes (codes ",") (clear_run 44 p.0).1 q.0 q.1 ∙ ap (λ (x : List ℕ). codes "," ++ x) u.0 in
    let middle : (clear_run 44 text).1 ≡ codes "," ++ (cid ++ (codes "," ++ (uid ++ left))) = after_takes (codes ",") (clear_run 44 text).1 p.0 p.1
    ∙ ap (λ (x : List ℕ). codes "," ++ x) (c.0 ∙ ap (λ (x : List ℕ). cid ++ x) last) in
    let whole : text ≡ id_strings_text (as_ids hid cid uid) ++ left = h.0 ∙ ap (λ (x : List ℕ). hid ++ x) middle ∙ sym (ids_shown stop hid cid uid left h.1 c.1 u.1) in
    let byte : (string tail : List ℕ) (end : ℕ) → clear end string → All IsByte tail → All IsByte (string ++ 0 ∷ tail) =
    λ string tail end is all. All-append IsByte string (0 ∷ tail) (clear_bytes end string is) (All-cons IsByte 0 tail (omega arith) all) in (
      whole ∙ (λ i. tail_text Ids (same.0 i) ++ same.1 i),
      subst (λ (x : List ℕ). All IsByte x) same.0
          (byte hid (uid ++ (0 ∷ (cid ++ (0 ∷ [])))) 44 h.1 (byte uid (cid ++ (0 ∷ [])) stop u.1 (byte cid [] 44 c.1 (All-nil IsByte)))),
      (hid, cid, uid, sym same.0, h.1, c.1, u.1),
    )
