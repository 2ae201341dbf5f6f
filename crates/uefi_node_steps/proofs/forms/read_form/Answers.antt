use Rattle.std.proofs.Common.{ap, map, ◌∙◌}
use Rattle.uefi_node_steps.specs.Printing.{form_by, step_by}
use Rattle.uefi_node_steps.specs.Steps.{lists}
use Rattle.uefi_node_steps.specs.Table.{Form}
use Rattle.uefi_node_steps.specs.Views.{steps_in}
use Rattle.uefi_node_steps.proofs.CodeLaws.{code_reads}
use Rattle.uefi_node_steps.proofs.forms.read_form.Goals as goal

pub returns : goal.returns
returns g c =
    let form : Form = form_by (λ s. map (step_by (λ l. l.now)) s.now) (λ b. b.now) c.args.form.now in
    c.read_steps.ensures ∙ ap (λ d. steps_in lists form.laid.steps d (g.T.Text.codes c.args.text)) c.requires.blank ∙ code_reads lists form.laid (g.T.Text.codes c.args.text) c.requires.apart
