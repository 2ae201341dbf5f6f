-- All nodes are still to come, and the fault after them, if any.
use Rattle.std.proofs.Common.{◌≡◌, ◌∙◌, ◌-◌, suc, ap, length, arith}
use Rattle.uefi_device_path.specs.CheckedNodes.{checked_within}
use Rattle.uefi_device_path.specs.Views.{checked_left, checked_node}
use Rattle.uefi_device_path.proofs.CheckedRuns.{begins_none, checked_path, checked_refused, few_checked}
use Rattle.uefi_text.proofs.Runs.{gives_each}
use Rattle.uefi_device_path.proofs.checked_nodes.CheckedNodes.new.Goals as goal

pub invariant_of-result : goal.invariant_of-result
invariant_of-result c =
    record { begins = begins_none c.args.bytes.now; ended = λ e. absurd (cc e); failed = λ e. absurd (cc e) }

pub returns-clause-accepted : goal.returns-clause-accepted
unfolding checked_left
returns-clause-accepted c = λ nodes path.
    let bytes = c.args.bytes.now in
    let none : length bytes - length bytes ≡ 0 = omega arith in
    ap (λ n. checked_within (suc (length bytes)) n bytes) none ∙ checked_path bytes nodes path

pub returns-clause-refused : goal.returns-clause-refused
unfolding checked_left
returns-clause-refused c = λ error nodes rest refused.
    let bytes = c.args.bytes.now in
    let none : length bytes - length bytes ≡ 0 = omega arith in
    ap (λ n. checked_within (suc (length bytes)) n bytes) none ∙ checked_refused bytes error nodes rest refused

pub returns-clause-bound : goal.returns-clause-bound
unfolding checked_left
returns-clause-bound c =
    let bytes = c.args.bytes.now in
    let few = few_checked (suc (length bytes)) (length bytes - length bytes) bytes in
    omega (arith, few)

pub returns-clause-runs : goal.returns-clause-runs
returns-clause-runs c = gives_each checked_node checked_left _
