use Rattle.std.proofs.Common.{◌++◌, ◌≤◌, List, ℕ, ap, append_assoc, map, ◌∙◌}
use Rattle.std.proofs.lemmas.Bool.{and_parts, leb-true}
use Rattle.std.proofs.lemmas.List.{take_at}
use Rattle.uefi_node_steps.specs.Heads.{parts_at}
use Rattle.uefi_node_steps.specs.Printing.{form_by, step_by}
use Rattle.uefi_node_steps.specs.Table.{Form}
use Rattle.uefi_node_steps.proofs.Telling.{take_head, within_head}
use Rattle.uefi_node_steps.proofs.Walks.{reread}
use Rattle.uefi_node_steps.proofs.told.put_data.Goals as goal

pub returns : goal.returns
returns g c =
    let form : Form = form_by (λ s. map (step_by (λ l. l.now)) s.now) (λ b. b.now) c.args.found.now.form.now in
    let text : List ℕ = g.T.Text.codes c.args.found.now.start in
    let fixed : List ℕ = (parts_at form text).0 in
    let tail : List ℕ = (parts_at form text).1 in
    let few : form.laid.size ≤ 56 = leb-true _ _ (and_parts _ _ c.requires.small).0 in
    let front = take_head (fixed ++ tail) c.args.found.now.head c.args.found.now.len form.laid.size c.requires.known few (within_head form text c.args.found.now.head c.args.found.now.len c.requires)
    ∙ take_at fixed tail form.laid.size c.requires.size in
    reread g.T.Text.codes form text _ _ _ _ _ c.requires.sound c.requires.read c.read_steps-read.ensures
    ∙ ap (λ (l : List ℕ). l ++ tail) (c.put_all.ensures ∙ ap (λ (l : List ℕ). g.S.Sink.content c.args.sink.now ++ l) front) ∙ append_assoc (g.S.Sink.content c.args.sink.now) fixed tail
