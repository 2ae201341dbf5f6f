use Rattle.std.proofs.Common.{List, ℕ, ap, map, refl, ◌∙◌}
use Rattle.std.specs.Cmp.Lexicographic.{pointwise}
use Rattle.std.specs.Prelude.{nat_eq}
use Rattle.uefi_node_steps.specs.Heads.{with_fields}
use Rattle.uefi_node_steps.specs.Printing.{form_by, step_by}
use Rattle.uefi_node_steps.specs.Steps.{put_all}
use Rattle.uefi_node_steps.specs.Table.{Form}
use Rattle.uefi_node_steps.proofs.Walks.{blank_is}
use Rattle.uefi_node_steps.proofs.told.is_kept.Goals as goal

pub returns : goal.returns
returns c =
    let form : Form = form_by (λ s. map (step_by (λ l. l.now)) s.now) (λ b. b.now) c.args.form.now in
    let fixed = c.put_fixed-2.ensures ∙ ap (put_all c.args.form.now.layout.bytes.now) c.put_fixed.ensures
    ∙ blank_is form.laid form.when c.args.form.now.layout.bytes.now _ refl c.requires.size c.requires.few in
    c.are_same.ensures ∙ ap (λ (l : List ℕ). pointwise nat_eq l c.args.fixed.now) (c.copy_fields.ensures ∙ ap (λ (l : List ℕ). with_fields form.laid.steps c.args.fixed.now l) fixed)
