-- What an input prints is what its one part does.
use Rattle.std.proofs.Common.{◌≡◌, ◌∙◌, ◌++◌, [], List, ℕ, IfOk, refl, subst, sym, ap}
use Rattle.std.proofs.lemmas.List.{append-nil}
use Rattle.upath.specs.Output.{output_of, output_with}
use Rattle.upath.proofs.inputs.run_text.Goals as goal

pub returns : goal.returns
returns g c =
    let new = c.add.new.self in
    let input = c.args.input.now in
    let given = c.in_ok-run.ensures in
    let all : output_with new.run.output.items new.run.path (new.begun.items ++ []) ≡ output_of (input ++ []) =
    c.in_ok-add.ensures.output [] ∙ rw (given.0, given.1, given.2) refl in
    let e : output_with new.run.output.items new.run.path new.begun.items ≡ output_of input =
    ap (output_with new.run.output.items new.run.path) (sym (append-nil new.begun.items)) ∙ all ∙ ap output_of (append-nil input) in
    subst (λ (bytes : List ℕ). IfOk c.finish.result (λ output. output.items ≡ bytes)) e c.finish.ensures
