use Rattle.std.proofs.Common.{◌&&◌, ◌+◌, Bool, List, ℕ, ap, length, map, sym, ◌∙◌}
use Rattle.std.specs.Prelude.{nat_le}
use Rattle.uefi_node_steps.specs.Heads.{node_at}
use Rattle.uefi_node_steps.specs.Nodes.{has_bytes}
use Rattle.uefi_node_steps.specs.Printing.{form_by, step_by}
use Rattle.uefi_node_steps.specs.Table.{Form}
use Rattle.uefi_node_steps.proofs.Walks.{head_prints}
use Rattle.uefi_node_steps.proofs.walk.prints.Goals as goal

pub returns-then-is_of_kind : goal.returns-then-is_of_kind
returns-then-is_of_kind g c =
    let form : Form = form_by (λ s. map (step_by (λ l. l.now)) s.now) (λ b. b.now) c.args.form.now in
    let other : Form = form_by (λ s. map (step_by (λ l. l.now)) s.now) (λ b. b.now) c.args.found.now.form.now in
    let content : List ℕ = (node_at other (g.T.Text.codes c.args.found.now.start)).content in
    c.fits.ensures ∙ head_prints content c.args.found.now.head c.args.found.now.len c.requires.found.known form c.requires.small
    ∙ ap (λ (b : Bool). b && (nat_le (form.laid.size + form.more) (length content) && has_bytes form.when content)) (sym c.if-is_of_kind.true ∙ c.is_of_kind.ensures)
