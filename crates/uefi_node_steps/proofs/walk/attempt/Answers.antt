use Rattle.std.proofs.Common.{ap, map, refl, ◌∙◌}
use Rattle.std.proofs.lemmas.Bool.{and_parts, leb-true}
use Rattle.uefi_node_steps.specs.Printing.{form_by, step_by}
use Rattle.uefi_node_steps.specs.Steps.{put_all}
use Rattle.uefi_node_steps.specs.Table.{Form}
use Rattle.uefi_node_steps.proofs.Walks.{blank_is}
use Rattle.uefi_node_steps.proofs.walk.attempt.Goals as goal

pub read_form-requires-clause-blank : goal.read_form-requires-clause-blank
read_form-requires-clause-blank g c =
    let form : Form = form_by (λ s. map (step_by (λ l. l.now)) s.now) (λ b. b.now) c.args.form.now in
    let fixed = c.put_fixed-2.ensures ∙ ap (put_all c.args.form.now.layout.bytes.now) c.put_fixed.ensures
    ∙ blank_is form.laid form.when c.args.form.now.layout.bytes.now form.laid.size refl refl (leb-true _ _ (and_parts _ _ c.requires.small).0) in
    λ i. (fixed i, c.new-tail.ensures i)
