-- The walk goes on over each component without a fault, and stops at the first other.
use Rattle.std.proofs.Common.{◌∙◌, arith, sym}
use Rattle.std.proofs.lemmas.Bool.{false≢true}
use Rattle.uefi_path.specs.declared.validation.PathError.TheVariants.{ClimbsAboveRoot}
use Rattle.uefi_text.specs.Views.{units_of}
use Rattle.uefi_path.proofs.Rewriting.{room_here}
use Rattle.uefi_path.proofs.Validity.{refused_by_climb, refused_by_name, step, stop}
use Rattle.uefi_path.proofs.splitting.fault_places.find_path_fault.Goals as goal
use Rattle.std.proofs.lemmas.Grind.{common_steps}

pub returns-in-Some-find_fault : goal.returns-in-Some-find_fault
returns-in-Some-find_fault c =
    stop _ _ _ c.loop-place.invariant.walk _ _ _ c.in-Some.ensures.steps c.in-Some-find_fault.error
    (refused_by_name (units_of c.in-Some.component) c.loop-place.depth c.in-Some-find_fault.error (sym c.find_fault.ensures ∙ c.in-Some-find_fault.is))
    (λ none. false≢true (c.if-is_empty.ensures.1 none))

pub returns-in_default-depth_after : goal.returns-in_default-depth_after
returns-in_default-depth_after c =
    stop _ _ _ c.loop-place.invariant.walk _ _ _ c.in-Some.ensures.steps ClimbsAboveRoot
    (refused_by_climb (units_of c.in-Some.component) c.loop-place.depth (sym c.find_fault.ensures ∙ c.in_default.is)
    (sym c.depth_after.ensures ∙ c.in_default-depth_after.is))
    (λ none. false≢true (c.if-is_empty.ensures.1 none))

pub loop-place-preserved : goal.loop-place-preserved
loop-place-preserved c = grind (arith, common_steps, step, room_here)

pub returns : goal.returns
returns c = grind arith
