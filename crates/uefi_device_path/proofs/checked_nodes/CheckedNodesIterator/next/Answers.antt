-- After an end or a fault nothing is still to come.
use Rattle.std.proofs.Common.{◌≢◌, arith}
use Rattle.std.proofs.lemmas.Grind.{common_steps}
use Rattle.uefi_device_path.specs.declared.checked_nodes.Progress.TheVariants.{Reading}
use Rattle.uefi_device_path.proofs.CheckedRuns.{past_fault, past_left, past_rest}
use Rattle.uefi_device_path.proofs.checked_nodes.CheckedNodesIterator.next.Goals as goal

pub returns-in-Ended-clause-steps : goal.returns-in-Ended-clause-steps
returns-in-Ended-clause-steps c =
    let other : c.args.self.now.progress ≢ Reading = λ e. grind (arith, common_steps) in
    let none = past_left c.args.self.now other in
    (none, none)

pub returns-in-Ended-clause-ended : goal.returns-in-Ended-clause-ended
returns-in-Ended-clause-ended c =
    let other : c.args.self.now.progress ≢ Reading = λ e. grind (arith, common_steps) in
    past_rest c.args.self.now other

pub returns-in-Ended-clause-failed : goal.returns-in-Ended-clause-failed
returns-in-Ended-clause-failed c =
    let other : c.args.self.now.progress ≢ Reading = λ e. grind (arith, common_steps) in
    past_fault c.args.self.now other
