use Rattle.std.proofs.Common.{◌≡◌, ℕ, ap, length, map, subst, sym, true, ◌∙◌}
use Rattle.std.proofs.lemmas.List.{length-take-le}
use Rattle.std.specs.List.{list_all}
use Rattle.uefi_text.proofs.Puts.{puts_as}
use Rattle.uefi_node_steps.specs.Nodes.{parts_in}
use Rattle.uefi_node_steps.specs.Printing.{form_by, is_laid_step, step_by, steps_text}
use Rattle.uefi_node_steps.specs.Steps.{lists}
use Rattle.uefi_node_steps.specs.Table.{Form}
use Rattle.uefi_node_steps.proofs.Printed.{steps_are}
use Rattle.uefi_node_steps.proofs.forms.put_form.Goals as goal

pub put_steps-requires : goal.put_steps-requires
put_steps-requires g c =
    let form : Form = form_by (λ s. map (step_by (λ l. l.now)) s.now) (λ b. b.now) c.args.form.now in
    let long : form.laid.size ≡ length c.split_at.result.0.now = sym (ap length c.split_at.ensures.front ∙ length-take-le form.laid.size c.args.content.now c.requires.long) in
    subst (λ (n : ℕ). list_all (is_laid_step n) form.laid.steps ≡ true) long c.requires.laid

pub returns : goal.returns
returns g c =
    let form : Form = form_by (λ s. map (step_by (λ l. l.now)) s.now) (λ b. b.now) c.args.form.now in
    puts_as _ _ _ _ _ c.put_steps.ensures ((λ i. steps_text lists (c.split_at.ensures.front i, c.split_at.ensures.back i) form.laid.steps)
    ∙ steps_are lists (parts_in form c.args.content.now) form.laid.steps)
