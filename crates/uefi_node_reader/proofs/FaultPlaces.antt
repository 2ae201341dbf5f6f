-- A byte that is wrong lies in its text, or at its end.
use Rattle.std.proofs.Common.{◌≡◌, refl, ℕ, suc, ◌+◌, ◌-◌, ◌≤◌, Bool, true, false, cond, eqb, List, [], ◌∷◌, length, arith}
use Rattle.std.specs.Prelude.{IfErr, Option, Some, None, Result, Ok, Err, codes, not, ◌&&◌}
use Rattle.std.specs.Option.{ok_or, option_map}
use Rattle.std.specs.Result.{result_map_both}
use Rattle.uefi_device_nodes.specs.Nodes.{Node}
use Rattle.uefi_node_reader.specs.LenientFields.{after_literal}
use Rattle.uefi_node_reader.specs.LenientCalls.{cut_call, is_blank, place_at, tidied}
use Rattle.uefi_node_reader.specs.LenientNodes.{bare_read, begins_call, call_in, call_read, cut_file, end_fault, ended_at, exact_or, fault_at_byte, file_in, file_or_call, is_base, is_escaped_name, lenient_read, unnamed_fault, open_fault, or_fault, spaced, stop_fault, typed_name, written_read}
use Rattle.uefi_node_reader.specs.Mistakes.{mistake}
use Rattle.uefi_node_reader.specs.NearNames.{is_named}
use Rattle.uefi_node_reader.specs.NamedFiles.{is_after_node, node_read, past_spaces}
use Rattle.uefi_node_reader.specs.Stops.{◌>?◌}
use Rattle.uefi_node_reader.specs.declared.errors.faults.Expected.TheVariants as expected
use Rattle.uefi_node_reader.specs.declared.errors.faults.NodeFault.{NodeFault}
use Rattle.uefi_node_reader.specs.declared.errors.faults.Stop.{Stop}

pub place_within : (count : ℕ) (text : List ℕ) → place_at count text ≤ length text
place_within count [] = omega arith
place_within count (c ∷ cs) = by (is_blank c) (eqb count 0) (place_within count cs) (place_within (count - 1) cs)
  where
    by : (a b : Bool) → place_at count cs ≤ length cs → place_at (count - 1) cs ≤ length cs
        → cond a (place_at count cs + 1) (cond b 0 (place_at (count - 1) cs + 1)) ≤ suc (length cs)
    by true b h k = omega arith
    by false true h k = omega arith
    by false false h k = omega arith

module _ (text : List ℕ) where
  -- a reading that fails does so in the text, or at its end
  abbrev pub Within : {A : Type 0} → Result A NodeFault → Type 0
  Within r = IfErr r (λ fault. fault.byte ≤ length text)

  pub or_within : {A : Type 0} (o : Option A) (fault : NodeFault) → fault.byte ≤ length text → Within (ok_or o fault)
  or_within None fault l = l
  or_within (Some x) fault l = tt

  stop_within : (call : List ℕ) (o : Option Stop) → (stop_fault text call o).byte ≤ length text
  stop_within call None = place_within 0 text
  stop_within call (Some stop) = by (is_base stop.expected && not (is_named call))
    where
      by : (b : Bool) → (cond b (unnamed_fault text call)
          (fault_at_byte (place_at (length call - (mistake call stop).left) text) (mistake call stop).expected)).byte ≤ length text
      by true = place_within 0 text
      by false = place_within (length call - (mistake call stop).left) text

  open_within : (call : List ℕ) (r : Result Node (Option Stop)) → (open_fault text call r).byte ≤ length text
  open_within call (Ok node) = omega arith
  open_within call (Err None) = stop_within call None
  open_within call (Err (Some stop)) = by (eqb stop.left 0)
    where
      by : (b : Bool) → (cond b (fault_at_byte (length text) (expected.Byte 41)) (stop_fault text call (Some stop))).byte ≤ length text
      by true = omega arith
      by false = stop_within call (Some stop)

  call_within : (o : Option (List ℕ × List ℕ)) → Within (call_in text o)
  call_within None = open_within (tidied text) (call_read text (tidied text))
  call_within (Some call) = by (call_read call.0 (tidied call.0))
    where
      by : (r : Result Node (Option Stop)) → Within {A = Node × List ℕ} (result_map_both (λ (n : Node). (n, call.1)) (stop_fault text (tidied call.0)) r)
      by (Ok node) = tt
      by (Err stop) = stop_within (tidied call.0) stop

  either_within : (r : Result (List ℕ) Stop) → Within (file_or_call r text)
  either_within (Err stop) = call_within (cut_call text)
  either_within (Ok name) = by (cut_file name)
    where
      by : (o : Option (List ℕ × List ℕ)) → Within (file_in text name o)
      by None = omega arith
      by (Some call) = or_within (option_map (λ (n : Node). (n, call.1)) (typed_name call.0)) _ (omega arith)

  pub end_within : (read : Node × List ℕ) → Within (ended_at text read)
  end_within read = by (is_after_node (past_spaces read.1))
    where
      by : (b : Bool) → Within {A = Node × List ℕ} (cond b (Ok (spaced read)) (Err (end_fault text read.1)))
      by true = tt
      by false = omega arith

  then_within : (r : Result (Node × List ℕ) NodeFault) → Within r → Within (r >? ended_at text)
  then_within (Ok read) h = end_within read
  then_within (Err fault) h = h

  written_within : (is_rooted : Bool) → Within (written_read is_rooted text)
  written_within is_rooted = by (begins_call text) (is_after_node text)
    where
      by : (b first : Bool) → Within (cond b (file_or_call (after_literal (codes "File(") (past_spaces text)) text >? ended_at text)
          (ok_or (bare_read is_rooted text) (fault_at_byte 0 (cond first expected.Node expected.FileName))))
      by true first = then_within (file_or_call (after_literal (codes "File(") (past_spaces text)) text) (either_within (after_literal (codes "File(") (past_spaces text)))
      by false first = or_within (bare_read is_rooted text) _ (omega arith)

  exact_within : (o : Option (Node × List ℕ)) (r : Result (Node × List ℕ) NodeFault) → Within r → Within (exact_or text o r)
  exact_within None r h = h
  exact_within (Some read) r h = by (is_after_node (past_spaces read.1)) r
    where
      by : (b : Bool) (r : Result (Node × List ℕ) NodeFault) → Within (cond b (Ok (spaced read)) (or_fault (end_fault text read.1) r))
      by true r = tt
      by false (Ok other) = tt
      by false (Err other) = omega arith

  pub fault_within : (is_rooted : Bool) → Within (lenient_read is_rooted text)
  unfolding lenient_read
  fault_within is_rooted = by (is_escaped_name text) refl
    where
      long : (t : List ℕ) → is_escaped_name t ≡ true → 1 ≤ length t
      long [] e = cc
      long (c ∷ cs) e = omega arith

      by : (b : Bool) → is_escaped_name text ≡ b
          → Within (cond b (Err (fault_at_byte 1 expected.FileName)) (exact_or text (node_read text) (written_read is_rooted text)))
      by true e = long text e
      by false e = exact_within (node_read text) (written_read is_rooted text) (written_within is_rooted)
