use Rattle.std.proofs.Common.{◌≡◌, drop, map}
use Rattle.uefi_node_steps.specs.Printing.{form_by, step_by}
use Rattle.uefi_node_steps.specs.Table.{forms_read}
use Rattle.uefi_node_steps.proofs.Walks.{after_stops}
use Rattle.uefi_node_steps.proofs.walk.first_form.Given as goal

abbrev pub invariant-loop-form : goal.invariant-loop-form
invariant-loop-form g l = after_stops l.furthest (forms_read (map (form_by (λ s. map (step_by (λ t. t.now)) s.now) (λ b. b.now)) (drop l.form-index l.forms)) (g.T.Text.codes l.text))
    ≡ forms_read (map (form_by (λ s. map (step_by (λ t. t.now)) s.now) (λ b. b.now)) l.forms) (g.T.Text.codes l.text)
