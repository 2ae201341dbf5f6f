-- Before what is left stand the nodes that were passed.
use Rattle.std.proofs.Common.{◌≡◌, ◌≢◌, ◌∙◌, ◌+◌, ◌-◌, ap, arith, drop, length, sym, Some}
use Rattle.std.proofs.lemmas.Grind.{common_steps}
use Rattle.uefi_device_nodes.specs.NodeFaults.{node_fault}
use Rattle.uefi_device_nodes.specs.Nodes.{IsInner, end_entire}
use Rattle.uefi_device_nodes.specs.NodeViews.{node_of}
use Rattle.uefi_device_path.specs.Extents.{begun_length}
use Rattle.uefi_device_path.specs.Paths.{nodes_bytes}
use Rattle.uefi_device_path.proofs.CutPaths.{cut_is_longer, cut_within, no_path_after, rest_after}
use Rattle.uefi_device_path.proofs.Splits.{begin_long, begin_more}
use Rattle.uefi_device_path.proofs.device_path.DevicePath.extent.Goals as goal

pub nodes-preserved : goal.nodes-preserved
nodes-preserved c =
    let bytes = c.args.bytes.now in
    let rest = c.nodes.rest.now in
    let nodes = c.nodes.invariant.1.0 in
    let node = c.in-Ok.node in
    let other : node_of node ≢ end_entire = λ e. grind (arith, common_steps) in
    let inner : IsInner (node_of node) = record { sound = c.in-Ok.ensures.sound; not_end = other } in
    let more = begin_more bytes nodes (node_of node) rest c.in-Ok.after.now c.nodes.invariant.1.1 c.in-Ok.ensures.ok inner in
    let long = begin_long bytes _ _ more in
    (omega arith, (_, more))

pub returns-then-is_cut_short-clause-ok : goal.returns-then-is_cut_short-clause-ok
returns-then-is_cut_short-clause-ok c =
    let bytes = c.args.bytes.now in
    let rest = c.nodes.rest.now in
    let nodes = c.nodes.invariant.1.0 in
    let begins = c.nodes.invariant.1.1 in
    let long = begin_long bytes nodes rest begins in
    let passed : length bytes - length rest ≡ length (nodes_bytes nodes) = omega arith in
    let left : drop (length bytes - length rest) bytes ≡ rest = ap (λ n. drop n bytes) passed ∙ rest_after bytes rest nodes begins in
    let fault : node_fault rest ≡ Some c.in-Err.cause = sym c.in-Err.ensures.refusal in
    let is = sym c.is_cut_short.ensures ∙ c.if-is_cut_short.true in
    let longer = cut_is_longer rest c.in-Err.cause fault is in
    record {
      nodes = (nodes, rw left begins, passed);
      part = (c.in-Err.cause, ap node_fault left ∙ fault, is);
      needed = ap (λ n. length bytes - length rest + n) (c.begun_length.ensures.length ∙ ap begun_length (sym left));
      more = omega (arith, longer, c.begun_length.ensures.length);
      least = λ after ms path.
          let within = cut_within bytes rest after nodes ms begins path in omega (arith, within, c.begun_length.ensures.length);
    }

pub returns-in-Err-clause-never : goal.returns-in-Err-clause-never
returns-in-Err-clause-never c =
    let fault : node_fault c.nodes.rest.now ≡ Some c.in-Err.cause = sym c.in-Err.ensures.refusal in
    no_path_after c.args.bytes.now c.nodes.rest.now c.nodes.invariant.1.0 c.in-Err.cause c.nodes.invariant.1.1 fault
    (sym c.is_cut_short.ensures ∙ c.if-is_cut_short.false)
