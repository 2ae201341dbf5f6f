-- The bytes after the end are those after the path.
use Rattle.std.proofs.Common.{◌≡◌, ◌-◌, ◌++◌, List, ℕ, drop, length, take, subst, sym, arith}
use Rattle.std.proofs.lemmas.List.{length-drop, take_all}
use Rattle.uefi_device_nodes.specs.Nodes.{end_entire, node_bytes}
use Rattle.uefi_device_path.specs.CheckedNodes.{nodes_before}
use Rattle.uefi_device_path.specs.Paths.{BeginWith}
use Rattle.uefi_device_path.specs.Views.{checked_bytes}
use Rattle.uefi_device_path.proofs.CheckedRuns.{begins_end}
use Rattle.uefi_device_path.proofs.checked_nodes.CheckedNodes.rest.Goals as goal

pub returns-in-Ended-clause-after : goal.returns-in-Ended-clause-after
unfolding checked_bytes
returns-in-Ended-clause-after c =
    let iter = c.args.self.now in
    let bytes = iter.bytes.now in
    let rest = iter.rest.now in
    let all : take (length rest - 4) (drop 4 rest) ≡ drop 4 rest = take_all (length rest - 4) (drop 4 rest) (omega (arith, length-drop 4 rest)) in
    let begins = begins_end bytes (nodes_before bytes rest) rest iter.begins (iter.ended c.in-Ended.is) in
    (nodes_before bytes rest, subst (λ (k : List ℕ). BeginWith bytes (nodes_before bytes rest) (node_bytes end_entire ++ k)) (sym all) begins)
