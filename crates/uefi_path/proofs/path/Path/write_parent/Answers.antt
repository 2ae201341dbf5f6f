-- The parent stands before a NUL, where the buffer has room for both.
use Rattle.std.proofs.Common.{◌+◌, ap, arith, length, refl, sym, ◌∙◌}
use Rattle.std.proofs.lemmas.Grind.{common_steps}
use Rattle.std.proofs.lemmas.Option.{same_Some}
use Rattle.uefi_text.proofs.SunkUnits.{sunk_and_ended}
use Rattle.uefi_path.specs.Parents.{parent_of_components}
use Rattle.uefi_path.specs.Views.{path_text}
use Rattle.uefi_path.proofs.Drafts.{needed, path_short, sunk_parent}
use Rattle.uefi_path.proofs.ParentForm.{units-canonical}
use Rattle.uefi_path.proofs.path.Path.write_parent.Goals as goal

pub parent_len-requires-clause-bound : goal.parent_len-requires-clause-bound
parent_len-requires-clause-bound c =
    grind (arith, common_steps, c.components-components.ensures.components.join, units-canonical (path_text c.args.self.now))

pub returns-then-buffer-len-clause-len : goal.returns-then-buffer-len-clause-len
returns-then-buffer-len-clause-len c =
    let made = c.in-Some.ensures in
    path_short _ made.parent _ _ (ap parent_of_components (sym c.components-components.ensures.same) ∙ made.is)
    (omega (arith, made.long, c.if-buffer-len.true)) (needed made.parent c.in-Some.len _ made.long refl made.fits)

pub returns-clause-buffer : goal.returns-clause-buffer
returns-clause-buffer c =
    let made = c.in-Some.ensures in
    let again = sunk_parent _ _ _ _ _ made.is c.sink_parent.ensures in
    grind (arith, sunk_and_ended, c.components-components.ensures, made, again)

pub returns-then-buffer-len-clause-needs : goal.returns-then-buffer-len-clause-needs
returns-then-buffer-len-clause-needs c = λ parent is.
    let made = c.in-Some.ensures in
    let same = same_Some _ _ (sym (ap parent_of_components (sym c.components-components.ensures.same) ∙ made.is) ∙ is) in
    ap (λ n. n + 1) (made.long ∙ ap length same)
