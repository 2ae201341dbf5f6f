use Rattle.std.proofs.Common.{◌≡◌, drop, false, map}
use Rattle.uefi_node_steps.specs.Heads.{node_at}
use Rattle.uefi_node_steps.specs.Nodes.{find_form, prints}
use Rattle.uefi_node_steps.specs.Printing.{form_by, step_by}
use Rattle.uefi_node_steps.proofs.walk.find_printing_form.Given as goal

abbrev pub invariant-loop-form : goal.invariant-loop-form
invariant-loop-form g l =
    find_form (prints false (node_at (form_by (λ s. map (step_by (λ t. t.now)) s.now) (λ b. b.now) l.found.form.now) (g.T.Text.codes l.found.start))) (map (form_by
    (λ s. map (step_by (λ t. t.now)) s.now) (λ b. b.now)) (drop l.form-index l.forms))
    ≡ find_form (prints false (node_at (form_by (λ s. map (step_by (λ t. t.now)) s.now) (λ b. b.now) l.found.form.now) (g.T.Text.codes l.found.start))) (map (form_by
    (λ s. map (step_by (λ t. t.now)) s.now) (λ b. b.now)) l.forms)
