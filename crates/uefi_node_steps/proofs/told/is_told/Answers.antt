use Rattle.std.proofs.Common.{ap, map, sym, ◌∙◌}
use Rattle.uefi_node_steps.specs.Heads.{node_at}
use Rattle.uefi_node_steps.specs.Nodes.{tells}
use Rattle.uefi_node_steps.specs.Printing.{form_by, step_by}
use Rattle.uefi_node_steps.specs.Table.{Form}
use Rattle.uefi_node_steps.proofs.Telling.{is_printing}
use Rattle.uefi_node_steps.proofs.told.is_told.Goals as goal

pub tells-requires-clause-size : goal.tells-requires-clause-size
tells-requires-clause-size g c = (is_printing _ _ _ _ _ _ _ c.requires.table c.requires.found c.requires.read (sym c.in-Some.ensures)).within

pub tells-requires-clause-small : goal.tells-requires-clause-small
tells-requires-clause-small g c = (is_printing _ _ _ _ _ _ _ c.requires.table c.requires.found c.requires.read (sym c.in-Some.ensures)).small

pub tells-requires-clause-sound : goal.tells-requires-clause-sound
tells-requires-clause-sound g c = (is_printing _ _ _ _ _ _ _ c.requires.table c.requires.found c.requires.read (sym c.in-Some.ensures)).sound

pub returns-in-Some : goal.returns-in-Some
returns-in-Some g c =
    let form : Form = form_by (λ s. map (step_by (λ l. l.now)) s.now) (λ b. b.now) c.args.found.now.form.now in
    c.tells.ensures ∙ (is_printing _ _ _ _ _ _ _ c.requires.table c.requires.found c.requires.read (sym c.in-Some.ensures)).tells
    ∙ ap (λ o. tells o (node_at form (g.T.Text.codes c.args.found.now.start)).content) c.in-Some.ensures
