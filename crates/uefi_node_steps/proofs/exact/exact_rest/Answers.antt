use Rattle.std.proofs.Common.{◌≤◌, List, ℕ, ap, length, map, subst, sym, ◌∙◌}
use Rattle.uefi_node_steps.specs.Heads.{node_at}
use Rattle.uefi_node_steps.specs.Nodes.{Node, parts_in, printed_read, text_in}
use Rattle.uefi_node_steps.specs.Printing.{form_by, step_by}
use Rattle.uefi_node_steps.specs.Table.{Form, form_leaf}
use Rattle.uefi_node_steps.proofs.Telling.{laid_found}
use Rattle.uefi_node_steps.proofs.exact.exact_rest.Goals as goal

pub after_form-requires-clause-laid : goal.after_form-requires-clause-laid
after_form-requires-clause-laid g c =
    let form : Form = form_by (λ s. map (step_by (λ l. l.now)) s.now) (λ b. b.now) c.in-Some.form.now in
    let node : Node = node_at (form_by (λ s. map (step_by (λ l. l.now)) s.now) (λ b. b.now) c.args.found.now.form.now) (g.T.Text.codes c.args.found.now.start) in
    (laid_found node form (map (form_by (λ s. map (step_by (λ l. l.now)) s.now) (λ b. b.now)) c.args.forms.now) c.requires.laid (sym c.in-Some.ensures)).0

pub after_form-requires-clause-long : goal.after_form-requires-clause-long
after_form-requires-clause-long g c =
    let form : Form = form_by (λ s. map (step_by (λ l. l.now)) s.now) (λ b. b.now) c.in-Some.form.now in
    let node : Node = node_at (form_by (λ s. map (step_by (λ l. l.now)) s.now) (λ b. b.now) c.args.found.now.form.now) (g.T.Text.codes c.args.found.now.start) in
    subst (λ (l : List ℕ). form.laid.size ≤ length l) (sym c.requires.content)
    (laid_found node form (map (form_by (λ s. map (step_by (λ l. l.now)) s.now) (λ b. b.now)) c.args.forms.now) c.requires.laid (sym c.in-Some.ensures)).1

pub returns-in-Some : goal.returns-in-Some
returns-in-Some g c =
    let form : Form = form_by (λ s. map (step_by (λ l. l.now)) s.now) (λ b. b.now) c.in-Some.form.now in
    let text : List ℕ = g.T.Text.codes c.args.found.now.start in
    let node : Node = node_at (form_by (λ s. map (step_by (λ l. l.now)) s.now) (λ b. b.now) c.args.found.now.form.now) text in
    c.after_form.ensures ∙ ap (λ (l : List ℕ). printed_read ((form_leaf form).text (parts_in form l)) text) c.requires.content
    ∙ ap (λ o. printed_read (text_in o node.content) text) c.in-Some.ensures

pub returns-in-None : goal.returns-in-None
returns-in-None g c =
    let text : List ℕ = g.T.Text.codes c.args.found.now.start in
    let node : Node = node_at (form_by (λ s. map (step_by (λ l. l.now)) s.now) (λ b. b.now) c.args.found.now.form.now) text in
    ap (λ o. printed_read (text_in o node.content) text) c.in-None.ensures
