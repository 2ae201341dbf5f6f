-- One more device path was passed, or bytes are left that begin with none.
use Rattle.std.proofs.Common.{◌≡◌, ◌≢◌, ◌≤◌, ◌<◌, ◌-◌, ◌∙◌, ap, refl, subst, ℕ, List, [], ◌∷◌, ◌++◌, length, length-append, arith}
use Rattle.std.proofs.lemmas.Grind.{common_steps}
use Rattle.std.proofs.lemmas.List.{append-nil}
use Rattle.uefi_device_nodes.specs.Nodes.{Node, end_entire, node_bytes}
use Rattle.uefi_device_path.specs.Paths.{BeginWith}
use Rattle.uefi_device_path.specs.PathLists.{HasFirst, list_bytes}
use Rattle.uefi_device_path.specs.Views.{nodes_of}
use Rattle.uefi_device_path.proofs.Lists.{IsPathList-list_bytes, first_here, not_empty-push, paths_long, paths_more}
use Rattle.uefi_device_path.proofs.Splits.{begin_long}
use Rattle.uefi_device_path.proofs.ListFaults.{breaks_after, nodes_front, paths_front}
use Rattle.uefi_device_path.proofs.path_list.check_list.Goals as goal
use Rattle.uefi_device_path.proofs.path_list.check_list.Goals.{then-start-eq0, else-start-eq0}

first_shorter : (rest after : List ℕ) (path : List Node) → BeginWith rest path (node_bytes end_entire ++ after) → length after < length rest
first_shorter rest after path begins =
    let long = begin_long rest path _ begins in
    omega (arith, long, length-append (node_bytes end_entire) after)

-- the path at the start of the bytes was passed
first_passed : (bytes rest after : List ℕ) (path : List Node) → length rest ≤ length bytes → length bytes - length rest ≡ 0
    → (length rest ≡ length bytes → rest ≡ bytes) → BeginWith rest path (node_bytes end_entire ++ after)
    → HasFirst bytes (length bytes - length after)
first_passed bytes rest after path within start same begins =
    first_here bytes after path (subst (λ k. BeginWith k path (node_bytes end_entire ++ after)) (same (omega (arith, within, start))) begins)

pub returns-then-is_empty-clause-first : goal.returns-then-is_empty-clause-first
returns-then-is_empty-clause-first c =
    let inv = c.paths.invariant in
    elim c.if-start-eq0.branch [
      | then-start-eq0 w ↦
          rw w.first_len-is (first_passed c.args.bytes.now c.paths.rest.now c.in-Ok.after.now _ inv.0 (grind (arith, common_steps)) inv.2 c.in-Ok.ensures.ok)
      | else-start-eq0 w ↦ rw w.first_len-is (inv.3 (grind (arith, common_steps)))
    ]

pub returns-then-is_empty-clause-ok : goal.returns-then-is_empty-clause-ok
returns-then-is_empty-clause-ok c =
    let so_far = c.paths.invariant.1 in
    let more = paths_more c.args.bytes.now so_far.0 _ c.paths.rest.now c.in-Ok.after.now so_far.1 c.in-Ok.ensures.ok in
    let none : c.in-Ok.after.now ≡ [] = grind (arith, common_steps) in
    let paths = so_far.0 ++ nodes_of c.in-Ok.field-0-0 ∷ [] in
    let all = more.join ∙ ap (λ k. list_bytes paths ++ k) none ∙ append-nil (list_bytes paths) in
    IsPathList-list_bytes paths c.args.bytes.now more.are_paths (not_empty-push so_far.0 _) all

pub invariant_of-result : goal.invariant_of-result
invariant_of-result c =
    let so_far = c.paths.invariant.1 in
    record {
      packed = (paths_front c.args.bytes.now so_far.0 c.paths.rest.now so_far.1).0;
      are_nodes = rw c.fault_place.ensures.place (nodes_front c.paths.rest.now c.in-Err.error c.in-Err.ensures.refusal).0;
    }

pub returns-in-Err-clause-refusal : goal.returns-in-Err-clause-refusal
returns-in-Err-clause-refusal c =
    let so_far = c.paths.invariant.1 in
    let long = paths_long c.args.bytes.now so_far.0 c.paths.rest.now so_far.1 in (
      so_far.0,
      c.paths.rest.now,
      c.in-Err.error,
      record {
        begins = so_far.1;
        more = so_far.2;
        refused = c.in-Err.ensures.refusal;
        cause = refl;
        offset = omega (arith, long);
      },
    )

pub returns-in-Err-clause-before : goal.returns-in-Err-clause-before
returns-in-Err-clause-before c =
    let so_far = c.paths.invariant.1 in
    rw c.fault_place.ensures.place (breaks_after c.args.bytes.now so_far.0 c.paths.rest.now c.in-Err.error so_far.1 c.in-Err.ensures.refusal)

pub paths-preserved : goal.paths-preserved
paths-preserved c =
    let inv = c.paths.invariant in
    let so_far = inv.1 in
    let more = paths_more c.args.bytes.now so_far.0 _ c.paths.rest.now c.in-Ok.after.now so_far.1 c.in-Ok.ensures.ok in
    let long = paths_long c.args.bytes.now _ c.in-Ok.after.now more in
    let shorter = first_shorter c.paths.rest.now c.in-Ok.after.now _ c.in-Ok.ensures.ok in
    let some : c.in-Ok.after.now ≢ [] = λ e. grind (arith, common_steps) in
    let first : HasFirst c.args.bytes.now c.if-start-eq0.first_len = elim c.if-start-eq0.branch [
      | then-start-eq0 w ↦
          rw w.first_len-is (first_passed c.args.bytes.now c.paths.rest.now c.in-Ok.after.now _ inv.0 (grind (arith, common_steps)) inv.2 c.in-Ok.ensures.ok)
      | else-start-eq0 w ↦ rw w.first_len-is (inv.3 (grind (arith, common_steps)))
    ] in
    (omega arith, (_, more, λ e. absurd (some e)), λ e. absurd (omega (arith, inv.0, shorter, e)), λ _. first)
