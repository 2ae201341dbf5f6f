-- A node that does not end the path comes first, and those after it are still to come.
use Rattle.std.proofs.Common.{◌≡◌, ◌≢◌, ◌∙◌, ◌≤◌, ◌++◌, ap, length, take, arith}
use Rattle.std.proofs.lemmas.Grind.{common_steps}
use Rattle.uefi_device_nodes.specs.NodeViews.{node_of}
use Rattle.uefi_device_nodes.specs.Nodes.{IsInner, end_entire, node_bytes}
use Rattle.uefi_device_path.specs.CheckedNodes.{BeginWithEnd, nodes_before}
use Rattle.uefi_device_path.specs.Views.{checked_bytes, checked_left, rest_of}
use Rattle.uefi_device_path.proofs.CheckedRuns.{begins_at, comes_node, no_refusal, rest_same}
use Rattle.uefi_device_path.proofs.Splits.{begin_long, begin_more}
use Rattle.uefi_device_path.proofs.checked_nodes.CheckedNodes.read.Goals as goal

pub invariant_of-self-in-Ok : goal.invariant_of-self-in-Ok
invariant_of-self-in-Ok c =
    let iter = c.args.self.now in
    let node = node_of c.in-Ok.node in
    let other : node ≢ end_entire = λ e. grind (arith, common_steps) in
    let inner : IsInner node = record { sound = c.in-Ok.ensures.sound; not_end = other } in
    let more = begin_more iter.bytes.now (nodes_before iter.bytes.now iter.rest.now) node iter.rest.now c.in-Ok.after.now iter.begins c.in-Ok.ensures.ok inner in
    record { begins = begins_at iter.bytes.now _ c.in-Ok.after.now more; ended = λ e. absurd (cc (c.requires, e)); failed = λ e. absurd (cc (c.requires, e)) }

pub returns-else-is_end_entire-clause-steps : goal.returns-else-is_end_entire-clause-steps
unfolding checked_left
returns-else-is_end_entire-clause-steps c =
    let iter = c.args.self.now in
    let bytes = iter.bytes.now in
    let rest = iter.rest.now in
    let after = c.in-Ok.after.now in
    let node = node_of c.in-Ok.node in
    let other : node ≢ end_entire = λ e. grind (arith, common_steps) in
    let inner : IsInner node = record { sound = c.in-Ok.ensures.sound; not_end = other } in
    let long = begin_long bytes (nodes_before bytes rest) rest iter.begins in
    let within : length rest ≤ length bytes = omega (arith, long) in
    rw c.requires (comes_node bytes rest after node within c.in-Ok.ensures.ok inner)

pub returns-then-is_end_entire-clause-ended : goal.returns-then-is_end_entire-clause-ended
unfolding checked_bytes rest_of
returns-then-is_end_entire-clause-ended c = λ nodes rest path.
    let iter = c.args.self.now in
    let is_end : node_of c.in-Ok.node ≡ end_entire = grind (arith, common_steps) in
    let ends : BeginWithEnd iter.rest.now = ap (take 4) (c.in-Ok.ensures.ok ∙ ap (λ n. node_bytes n ++ c.in-Ok.after.now) is_end) in
    rest_same iter.bytes.now (nodes_before iter.bytes.now iter.rest.now) nodes iter.rest.now rest iter.begins ends path

pub returns-then-is_end_entire-clause-failed : goal.returns-then-is_end_entire-clause-failed
unfolding checked_bytes rest_of
returns-then-is_end_entire-clause-failed c = λ error refused.
    let iter = c.args.self.now in
    let is_end : node_of c.in-Ok.node ≡ end_entire = grind (arith, common_steps) in
    let ends : BeginWithEnd iter.rest.now = ap (take 4) (c.in-Ok.ensures.ok ∙ ap (λ n. node_bytes n ++ c.in-Ok.after.now) is_end) in
    absurd (no_refusal iter.bytes.now (nodes_before iter.bytes.now iter.rest.now) iter.rest.now error iter.begins ends refused)
