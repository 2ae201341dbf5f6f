-- A line that ends is printed, and what follows the last one is kept.
use Rattle.std.proofs.Common.{◌≡◌, ◌∙◌, ◌++◌, ◌+◌, ◌<◌, ◌≤◌, List, ℕ, OnOk, arith, length, length-drop, take, refl, subst, sym}
use Rattle.std.proofs.lemmas.Grind.{common_steps}
use Rattle.std.proofs.lemmas.List.{take_rest}
use Rattle.std.specs.Prelude.{if◌then◌else◌, is_ok, Result, Ok, Err}
use Rattle.upath.specs.Commands.{command_of}
use Rattle.upath.specs.Lines.{IsUnended}
use Rattle.upath.specs.Output.{output_with, path_after, printed_by}
use Rattle.upath.proofs.LineEnds.{IsUnended-append}
use Rattle.upath.proofs.PrintedLines.{longer-printed, output_with-end}
use Rattle.upath.proofs.inputs.PartialRun.add.Goals as goal

pub loop-end-preserved : goal.loop-end-preserved
loop-end-preserved g c =
    let rest = c.loop-end.rest.now in
    let end = c.in-Some.end in
    let run = c.loop-end.self.run in
    let begun = c.loop-end.self.begun.items in
    let given = c.args.self.now in
    let command = command_of (begun ++ take end rest) in
    let done = c.in_ok-end_line.ensures in
    let longer : length run.output.items < length c.end_line.new.self.run.output.items =
    rw (done.1) (longer-printed run.output.items command run.path) in (
      rw (done.2) refl,
      subst (λ (bytes : List ℕ). length bytes ≤ length c.args.part.now)
          (sym (take_rest rest (end + 1))) (omega (arith, length-drop (end + 1) rest, c.loop-end.invariant.1)),
      λ more. rw (done.1, done.0, done.2) (subst (λ (bytes : List ℕ).
          output_with (run.output.items ++ printed_by command run.path) (path_after command run.path) (bytes ++ more)
          ≡ output_with given.run.output.items given.run.path (given.begun.items ++ (c.args.part.now ++ more)))
          (sym (take_rest rest (end + 1)))
          (sym (output_with-end run.output.items run.path begun rest more end c.loop-end.invariant.0 c.in-Some.ensures.place)
          ∙ c.loop-end.invariant.2 more)),
      omega (arith, longer, c.loop-end.invariant.3),
      λ same. absurd (omega (arith, longer, c.loop-end.invariant.3)),
    )

kept : {T E : Type 0} (result : Result T E) (new old both : List ℕ)
    → new ≡ (if is_ok result then both else old) → IsUnended both → OnOk result (IsUnended new)
kept (Ok value) new old both e unended = rw (e) unended
kept (Err error) new old both e unended = tt

pub returns-clause-unended : goal.returns-clause-unended
returns-clause-unended g c =
    kept c.extend_from_slice.result c.extend_from_slice.new.self.items c.loop-end.self.begun.items
    (c.loop-end.self.begun.items ++ c.loop-end.rest.now) c.extend_from_slice.ensures.items
    (IsUnended-append c.loop-end.self.begun.items c.loop-end.rest.now c.loop-end.invariant.0 (sym c.in_default.ensures.place))

pub returns-clause-output : goal.returns-clause-output
returns-clause-output g c = grind (arith, common_steps)
