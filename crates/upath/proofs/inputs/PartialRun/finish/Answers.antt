-- What has begun is the last line, if it is not empty.
use Rattle.std.proofs.Common.{◌≡◌, ◌<◌, length, sym, arith}
use Rattle.std.proofs.lemmas.Grind.{common_steps}
use Rattle.upath.proofs.PrintedLines.{output_with-last, output_with-none}
use Rattle.upath.proofs.inputs.PartialRun.finish.Goals as goal
use Rattle.upath.proofs.inputs.PartialRun.finish.Goals.{then-not-is_empty+in_ok-line, else-not-is_empty}

pub returns : goal.returns
returns g c =
    let run = c.args.self.run in
    let begun = c.args.self.begun.items in
    elim c.if-not-is_empty.branch [
      | then-not-is_empty+in_ok-line w ↦
          let some : 0 < length begun = grind (arith, common_steps) in
          rw (c.into_output.ensures, w.run-is, w.in_ok-line.ensures.1, w.deref.ensures.value)
          (sym (output_with-last run.output.items run.path begun some c.requires))
      | else-not-is_empty w ↦
          let none : length begun ≡ 0 = grind (arith, common_steps) in
          rw (c.into_output.ensures, w.run-is) (sym (output_with-none run.output.items run.path begun none))
    ]
