-- Texts that differ in case, in blanks or in zeros before numbers alone are read alike.
use Rattle.std.proofs.Common.{◌≡◌, ◌==◌, ◌&&◌, ℕ, Bool, true, false, cond, eqb, ltb, List, [], ◌∷◌, refl, sym, ap, subst, ◌∙◌, arith, true≢false}
use Rattle.std.specs.Prelude.{Option, Some, None, Result, Ok, Err, codes}
use Rattle.std.specs.Option.{ok_or, option_map}
use Rattle.std.specs.Result.{result_map_both, result_ok}
use Rattle.std.proofs.lemmas.Bool.{and_parts, not-true}
use borrow.Author.Tests.{eqb-true}
use Rattle.uefi_device_nodes.specs.Nodes.{Node}
use Rattle.uefi_node_reader.specs.Alike.{CallsAlike, IsOtherCall, ZerosAlike, ZerosAlikeAfterBase}
use Rattle.uefi_node_reader.specs.FieldReading.{read_if}
use Rattle.uefi_node_reader.specs.LenientFields.{after_literal, any_number, past_base, some_digits}
use Rattle.uefi_node_reader.specs.LenientCalls.{cut_call, tidied}
use Rattle.uefi_node_reader.specs.LenientNodes.{call_read, or_textless, bare_read, begins_call, call_in, end_fault, ended_at, ended_spaced, exact_or, fault_at_byte, file_or_call, is_escaped_name, lenient_read, or_fault, spaced, stop_fault, written_read}
use Rattle.uefi_node_reader.specs.NamedFiles.{begins_name, is_after_node, node_read, past_spaces}
use Rattle.uefi_node_reader.specs.Stops.{◌>?◌}
use Rattle.uefi_node_reader.specs.declared.errors.faults.Expected.TheVariants as expected
use Rattle.uefi_node_reader.specs.declared.errors.faults.NodeFault.{NodeFault}
use Rattle.uefi_node_reader.specs.declared.errors.faults.Stop.{Stop}
use Rattle.uefi_node_reader.specs.Numerals.{digit_of}
use Rattle.uefi_node_reader.proofs.LenientNumbers.{zero_more}

-- what was read, whatever else is the fault
exact_none : (text : List ℕ) (o : Option (Node × List ℕ)) (other : Result (Node × List ℕ) NodeFault) → ended_spaced o ≡ None
    → result_ok (exact_or text o other) ≡ result_ok other
exact_none text None other e = refl
exact_none text (Some read) other e = by (is_after_node (past_spaces read.1)) other e
  where
    by : (b : Bool) (other : Result (Node × List ℕ) NodeFault) → read_if b read.0 (past_spaces read.1) ≡ None
        → result_ok (cond b (Ok (spaced read)) (or_fault (end_fault text read.1) other)) ≡ result_ok other
    by true other q = cc
    by false (Ok x) q = refl
    by false (Err fault) q = refl

-- what is read of a call, by its tidied text
abbrev tidied_read : List ℕ → List ℕ → Option (Node × List ℕ)
tidied_read text rest = ended_spaced (option_map (λ (node : Node). (node, rest)) (result_ok (or_textless text (Err None))))

ended_ok : (text front rest : List ℕ) (r : Result Node (Option Stop))
    → result_ok (result_map_both (λ (node : Node). (node, rest)) (stop_fault text (tidied front)) r >? ended_at text)
    ≡ ended_spaced (option_map (λ (node : Node). (node, rest)) (result_ok r))
ended_ok text front rest (Err stop) = refl
ended_ok text front rest (Ok node) = by (is_after_node (past_spaces rest))
  where
    by : (b : Bool) → result_ok (cond b (Ok (node, past_spaces rest)) (Err (end_fault text rest))) ≡ read_if b node (past_spaces rest)
    by true = refl
    by false = refl

no_file : (r : Result (List ℕ) Stop) (text : List ℕ) → result_ok r ≡ None → file_or_call r text ≡ call_in text (cut_call text)
no_file (Err stop) text e = refl
no_file (Ok name) text e = cc

-- a call begins with no backslash
call_unescaped : (text : List ℕ) → begins_call text ≡ true → is_escaped_name text ≡ false
call_unescaped [] e = refl
call_unescaped (c ∷ []) e = refl
call_unescaped (c ∷ d ∷ cs) e = by (c == 92) refl
  where
    by : (b : Bool) → (c == 92) ≡ b → b && (d == 92) ≡ false
    by false p = refl
    by true p =
        let first = not-true _ (and_parts _ _ e).1 in
        let slash : begins_name (past_spaces (92 ∷ d ∷ cs)) ≡ false =
        subst (λ (x : ℕ). begins_name (past_spaces (x ∷ d ∷ cs)) ≡ false) (eqb-true c 92 p) first in
        absurd (true≢false slash)

other_read : (is_rooted : Bool) (text front rest : List ℕ) → IsOtherCall text front rest
    → result_ok (lenient_read is_rooted text) ≡ tidied_read (tidied front) rest
unfolding lenient_read
other_read is_rooted text front rest is =
    ap (λ (b : Bool). result_ok (cond b (Err (fault_at_byte 1 expected.FileName)) (exact_or text (node_read text) (written_read is_rooted text))))
    (call_unescaped text is.begins)
    ∙ exact_none text (node_read text) (written_read is_rooted text) is.inexact
    ∙ ap (λ (t : Bool). result_ok (cond t (file_or_call (after_literal (codes "File(") (past_spaces text)) text >? ended_at text)
    (ok_or (bare_read is_rooted text) (fault_at_byte 0 (cond (is_after_node text) expected.Node expected.FileName))))) is.begins
    ∙ ap (λ (r : Result (Node × List ℕ) NodeFault). result_ok (r >? ended_at text))
    (no_file (after_literal (codes "File(") (past_spaces text)) text is.no_file ∙ ap (call_in text) is.cut)
    ∙ ended_ok text front rest (call_read front (tidied front))
    ∙ ap (λ (r : Result Node (Option Stop)). ended_spaced (option_map (λ (node : Node). (node, rest)) (result_ok (or_textless (tidied front) r)))) is.textless

pub calls_alike : CallsAlike
calls_alike is_rooted text other front back rest one two same =
    other_read is_rooted text front rest one ∙ ap (λ (t : List ℕ). tidied_read t rest) same
    ∙ sym (other_read is_rooted other back rest two)

pub zeros_alike : ZerosAlike
zeros_alike limit [] l d other = cc
zeros_alike limit (c ∷ cs) l d other = by (eqb c 120) refl
  where
    by : (t : Bool) → eqb c 120 ≡ t → any_number limit (48 ∷ c ∷ cs) ≡ any_number limit (c ∷ cs)
    by true p =
        let digit : ltb (digit_of 120) 10 ≡ true = subst (λ (x : ℕ). ltb (digit_of x) 10 ≡ true) (eqb-true c 120 p) d in
        absurd (true≢false (sym digit))
    by false p =
        ap (λ (t : Bool). cond t (some_digits 16 limit (past_base (48 ∷ c ∷ cs))) (some_digits 10 limit (48 ∷ c ∷ cs))) p
        ∙ zero_more 10 limit (c ∷ cs) (omega arith) l d
        ∙ sym (ap (λ (t : Bool). cond t (some_digits 16 limit (past_base (c ∷ cs))) (some_digits 10 limit (c ∷ cs))) other)

pub zeros_alike_after_base : ZerosAlikeAfterBase
zeros_alike_after_base limit text l d = zero_more 16 limit text (omega arith) l d
