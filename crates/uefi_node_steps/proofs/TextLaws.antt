-- The laws of texts: up to a NUL, in 32 bytes, in UTF-16, and of the strings of an ACPI device.
use Rattle.std.proofs.Common.{◌≡◌, ℕ, zero, suc, ◌+◌, ◌-◌, ◌≤◌, true, false, List, [], ◌∷◌, ◌++◌, length, take, drop, refl, ap, sym, subst, ◌∙◌, append_assoc, arith, length-append}
use Rattle.std.proofs.lemmas.Bool.{and_parts, leb-true}
use Rattle.std.proofs.lemmas.Bool.Decides.{nat_tests}
use Rattle.std.proofs.lemmas.List.{append-nil, drop_at, length-replicate, take_all, take_at}
use Rattle.std.proofs.Math.ListN.{replicate}
use Rattle.std.specs.List.{list_all, position_or_len}
use Rattle.std.specs.Prelude.{codes, nat_le}
use Rattle.uefi_text.specs.Units.{is_nul}
use Rattle.uefi_text.specs.UnitBytes.{unit_bytes, units_of_bytes}
use Rattle.uefi_text.proofs.UnitBytes.{units_of_bytes-unit_bytes}
use Rattle.uefi_device_nodes.specs.FieldTexts.{after_nul, id_strings_text, shown_bytes, shown_units, uid_string, until_nul, utf16_text}
use Rattle.uefi_device_nodes.specs.ShownFields.{is_printable}
use Rattle.uefi_device_nodes.proofs.UnitsShown.{shown_all, shown_run}
use Rattle.uefi_node_steps.specs.Leaves.{ByteLeaf, Clear, FitBoth, Leaf, before, both, clear_text, ends_at, id_strings, ids_text, is_clear, mapped, name_text, nothing, only, padded, padded_text, stored_strings, uid_text, units_text}
use Rattle.uefi_node_steps.specs.declared.steps.Expected.TheVariants as expected
use Rattle.uefi_node_steps.specs.Steps.{AreIds, AreUnits, FitStrings, IsClear, IsName, IsPadded, IsUid}
use Rattle.uefi_node_steps.proofs.DataLaws.{clear_keeps, clear_shown, printable}
use Rattle.uefi_node_steps.proofs.LeafLaws.{before_keeps}
use Rattle.uefi_node_steps.proofs.Combinations.{Keeps, both_keeps, keeps_as, mapped_keeps, nothing_keeps, only_keeps}

-- letters before a NUL, and what follows it
no_nul : (stop c : ℕ) → is_clear stop c ≡ true → is_nul c ≡ false
no_nul stop c e = let printable = (and_parts (is_printable c) _ e).0 in grind (arith, nat_tests, printable)

nul_at : (stop : ℕ) (letters more : List ℕ) → IsClear stop letters → position_or_len is_nul (letters ++ 0 ∷ more) ≡ length letters
nul_at stop [] more e = refl
nul_at stop (c ∷ cs) more e =
    let parts = and_parts (is_clear stop c) (list_all (is_clear stop) cs) e in
    let others = nul_at stop cs more parts.1 in
    rw (no_nul stop c parts.0) (omega (arith, others))

pub until_at : (stop : ℕ) (letters more : List ℕ) → IsClear stop letters → until_nul (letters ++ 0 ∷ more) ≡ letters
until_at stop letters more e = ap (λ (n : ℕ). take n (letters ++ 0 ∷ more)) (nul_at stop letters more e) ∙ take_at letters (0 ∷ more) (length letters) refl

after_at : (stop : ℕ) (letters more : List ℕ) → IsClear stop letters → after_nul (letters ++ 0 ∷ more) ≡ more
after_at stop letters more e =
    ap (λ (n : ℕ). drop (n + 1) (letters ++ 0 ∷ more)) (nul_at stop letters more e)
    ∙ ap (λ (t : List ℕ). drop (length letters + 1) t) (sym (append_assoc letters (0 ∷ []) more))
    ∙ drop_at (letters ++ 0 ∷ []) more (length letters + 1) (omega (arith, length-append letters (0 ∷ [])))

no_nul_at : (stop : ℕ) (letters : List ℕ) → IsClear stop letters → until_nul letters ≡ letters
no_nul_at stop letters e = ap (λ (n : ℕ). take n letters) (all letters e) ∙ take_all (length letters) letters (omega arith)
  where
    all : (letters : List ℕ) → IsClear stop letters → position_or_len is_nul letters ≡ length letters
    all [] e = refl
    all (c ∷ cs) e =
        let parts = and_parts (is_clear stop c) (list_all (is_clear stop) cs) e in
        let others = all cs parts.1 in
        rw (no_nul stop c parts.0) (omega (arith, others))

pub name_keeps : (stop : ℕ) → Keeps (name_text stop) (IsName stop) (ends_at (Clear stop))
name_keeps stop = mapped_keeps (λ letters. letters ++ 0 ∷ []) until_nul (clear_text stop) (IsClear stop) (IsName stop) (ends_at (Clear stop)) (clear_keeps stop)
    (λ v f. let same = until_at stop v [] f in ((rw same f, ap (λ (t : List ℕ). t ++ 0 ∷ []) same), same)) (λ w f. (f.0, f.1))

pad_back : (stop : ℕ) (letters : List ℕ) → IsClear stop letters → length letters ≤ 32 → until_nul (take 32 (padded letters)) ≡ letters
pad_back stop letters e l =
    ap until_nul (take_all 32 (padded letters) (omega (arith, length-append letters (replicate (32 - length letters) 0), length-replicate {A = ℕ} (32 - length letters) 0)))
    ∙ by (32 - length letters)
  where
    by : (count : ℕ) → until_nul (letters ++ replicate count 0) ≡ letters
    by zero = ap until_nul (append-nil letters) ∙ no_nul_at stop letters e
    by (suc count) = until_at stop letters (replicate count 0) e

pub padded_keeps : (stop : ℕ) → Keeps (padded_text stop) (IsPadded stop) (ends_at (Clear stop))
padded_keeps stop = mapped_keeps padded (λ bytes. until_nul (take 32 bytes)) (only (λ letters. nat_le (length letters) 32) (expected.Letters 32) (clear_text stop))
    (λ v. IsClear stop v × (nat_le (length v) 32 ≡ true)) (IsPadded stop) (ends_at (Clear stop))
    (only_keeps (λ letters. nat_le (length letters) 32) (expected.Letters 32) (clear_text stop) (IsClear stop) (ends_at (Clear stop)) (clear_keeps stop))
    (λ v f. let same = pad_back stop v f.0 (leb-true _ _ f.1) in ((rw same f.0, rw same f.1, ap padded same), same)) (λ w f. ((f.0, f.1), f.2))

units_shown : (units : List ℕ) → list_all is_printable units ≡ true → units ≡ shown_units units
units_shown units e =
    let all : take (length units) units ≡ units = take_all (length units) units (omega arith) in
    let from_first : 0 + length units ≡ length units = omega arith in
    let run = subst (λ (n : ℕ). take (length units) units ++ shown_units (drop n units)
    ≡ shown_units units) from_first (shown_run units 0 (length units) (subst (λ (t : List ℕ). list_all is_printable t ≡ true) (sym all) e)) in
    shown_all units units (length units) (ap (λ (t : List ℕ). t ++ shown_units (drop (length units) units)) (sym all) ∙ run) (omega arith)

pub units_keep : (stop : ℕ) → Keeps (units_text stop) (AreUnits stop) (ends_at (Clear stop))
unfolding utf16_text
units_keep stop = keeps_as coded utf16_text (AreUnits stop) (AreUnits stop) (ends_at (Clear stop))
    (mapped_keeps unit_bytes units_of_bytes (clear_text stop) (IsClear stop) (AreUnits stop) (ends_at (Clear stop)) (clear_keeps stop)
    (λ v f. let same = units_of_bytes-unit_bytes v in ((rw same f, ap unit_bytes same), same)) (λ w f. (f.0, f.1)))
    (λ v f. (f, same v f.0)) (λ v f. (f, sym (same v f.0)))
  where
    coded : ByteLeaf
    coded = mapped unit_bytes units_of_bytes (clear_text stop)

    same : (v : List ℕ) → IsClear stop (units_of_bytes v) → utf16_text v ≡ shown_bytes (units_of_bytes v)
    same v e = ap shown_units (no_nul_at stop (units_of_bytes v) e) ∙ sym (units_shown (units_of_bytes v) (printable stop (units_of_bytes v) e)) ∙ sym (clear_shown stop (units_of_bytes v) e)

-- the string of _UID alone
pub uid_keeps : (stop : ℕ) → Keeps (uid_text stop) (IsUid stop) (ends_at (Clear stop))
uid_keeps stop = mapped_keeps (λ letters. stored_strings ([] ∷ [] ∷ letters ∷ [])) uid_string (clear_text stop) (IsClear stop) (IsUid stop) (ends_at (Clear stop)) (clear_keeps stop)
    (λ v f. let same = back v f in ((rw same f, ap (λ (t : List ℕ). stored_strings ([] ∷ [] ∷ t ∷ [])) same), same)) (λ w f. (f.0, f.1))
  where
    back : (v : List ℕ) → IsClear stop v → uid_string (stored_strings ([] ∷ [] ∷ v ∷ [])) ≡ v
    back v f = ap until_nul (after_at 44 [] (v ++ (0 ∷ 0 ∷ [])) refl) ∙ until_at stop v (0 ∷ []) f

-- the strings of an ACPI device
abbrev strings : ℕ → Leaf (List (List ℕ))
strings stop = both (before (codes ",") (clear_text 44)) (both (before (codes ",") (clear_text 44)) (both (clear_text stop) nothing))

strings_keep : (stop : ℕ) → Keeps (strings stop) (FitStrings stop) (ends_at (Clear stop))
strings_keep stop =
    let string = before_keeps (codes ",") refl (clear_text 44) (IsClear 44) (ends_at (Clear 44)) (clear_keeps 44) (λ rest. refl) in
    let uid = both_keeps (clear_text stop) nothing (IsClear stop) (λ vs. vs
    ≡ []) (ends_at (Clear stop)) (λ rest. true) (ends_at (Clear stop)) (clear_keeps stop) nothing_keeps (λ vs rest f e. e) (λ rest e. refl) in
    let cid = both_keeps (before (codes ",") (clear_text 44)) (both (clear_text stop) nothing) (IsClear 44) (FitBoth (IsClear stop) (λ vs. vs
    ≡ [])) (λ rest. true) (ends_at (Clear stop)) (ends_at (Clear stop)) string uid
    (λ vs rest f e. refl) (λ rest e. e) in
    both_keeps (before (codes ",") (clear_text 44)) (both (before (codes ",") (clear_text 44)) (both (clear_text stop) nothing)) (IsClear 44) (FitBoth (IsClear 44) (FitBoth (IsClear stop)
    (λ vs. vs ≡ [])))
    (λ rest. true) (ends_at (Clear stop)) (ends_at (Clear stop)) string cid (λ vs rest f e. refl) (λ rest e. e)

strings_back : (stop : ℕ) (vs : List (List ℕ)) → FitStrings stop vs → id_strings (stored_strings vs) ≡ vs
strings_back stop [] f = absurd f
strings_back stop (hid ∷ []) f = absurd f.1
strings_back stop (hid ∷ cid ∷ []) f = absurd f.1.1
strings_back stop (hid ∷ cid ∷ uid ∷ v ∷ vs) f = cc f.1.1.1
strings_back stop (hid ∷ cid ∷ uid ∷ []) f =
    let second = after_at 44 hid (uid ++ (0 ∷ (cid ++ (0 ∷ [])))) f.0 in
    let third = ap after_nul second ∙ after_at stop uid (cid ++ (0 ∷ [])) f.1.1.0 in
    λ i. until_at 44 hid (uid ++ (0 ∷ (cid ++ (0 ∷ [])))) f.0 i ∷ (ap until_nul third ∙ until_at 44 cid [] f.1.0) i
    ∷ (ap until_nul second ∙ until_at stop uid (cid ++ (0 ∷ [])) f.1.1.0) i ∷ []

-- the string of _UID alone is also three strings
pub uid_ids : (stop : ℕ) (bytes : List ℕ) → IsUid stop bytes → AreIds stop bytes
uid_ids stop bytes f =
    let vs : List (List ℕ) = [] ∷ [] ∷ uid_string bytes ∷ [] in
    let fit : FitStrings stop vs = (refl, (refl, (f.0, refl))) in
    let same : id_strings bytes ≡ vs = ap id_strings (sym f.1) ∙ strings_back stop vs fit in
    (subst (FitStrings stop) (sym same) fit, ap stored_strings same ∙ f.1)

pub ids_keep : (stop : ℕ) → Keeps (ids_text stop) (AreIds stop) (ends_at (Clear stop))
unfolding id_strings_text
ids_keep stop = keeps_as coded id_strings_text (AreIds stop) (AreIds stop) (ends_at (Clear stop))
    (mapped_keeps stored_strings id_strings (strings stop) (FitStrings stop) (AreIds stop) (ends_at (Clear stop)) (strings_keep stop)
    (λ v f. let same = strings_back stop v f in ((subst (FitStrings stop) (sym same) f, ap stored_strings same), same)) (λ w f. (f.0, f.1)))
    (λ v f. (f, same v)) (λ v f. (f, sym (same v)))
  where
    coded : ByteLeaf
    coded = mapped stored_strings id_strings (strings stop)

    same : (v : List ℕ) → id_strings_text v ≡ coded.text v
    same v = simp (append_assoc, append-nil)
