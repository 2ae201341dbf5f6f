-- The verdict is the fault of the component that was looked at last.
use Rattle.std.proofs.Common.{◌^◌, sym, ◌∙◌}
use Rattle.uefi_path.specs.Components.{components_of}
use Rattle.uefi_path.specs.Views.{components_left, path_text}
use Rattle.uefi_text.specs.Views.{units_of}
use Rattle.uefi_path.proofs.Rewriting.{names_here, past_here, room_here}
use Rattle.uefi_path.proofs.validation.judge.Goals as goal

pub loop-component-preserved : goal.loop-component-preserved
loop-component-preserved c =
    let so_far = c.loop-component in
    let left = components_left so_far.component-iterator in
    let here = units_of c.in-Some.component in
    let others = components_left c.next.new.self in
    let steps = c.in-Some.ensures.steps in
    let after = sym c.depth_after.ensures ∙ c.in-Some-depth_after.is in
    record {
      fault = sym (past_here _ left so_far.depth so_far.invariant.fault here others _ steps (sym c.find_fault.ensures ∙ c.in_default.is) after);
      names =
          names_here _ left so_far.depth so_far.invariant.fault (components_of (path_text c.args.path)) so_far.are_names
          here others c.in-Some-depth_after.left so_far.invariant.names steps after;
      bound =
          room_here _ left so_far.depth so_far.invariant.fault here others c.in-Some-depth_after.left (2 ^ 64) steps after
          so_far.invariant.bound;
    }
