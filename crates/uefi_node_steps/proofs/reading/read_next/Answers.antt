use Rattle.std.proofs.Common.{◌≡◌, ◌∙◌, [], ℕ, List, ap, take}
use Rattle.std.proofs.Math.ListN.{replicate}
use Rattle.std.proofs.lemmas.List.{take-replicate}
use Rattle.std.proofs.lemmas.Result.{err_from_is_err_and}
use Rattle.std.specs.Prelude.{Ok}
use Rattle.uefi_node_steps.specs.Steps.{item_of, no_list}
use Rattle.uefi_node_steps.specs.Views.{steps_in}
use Rattle.uefi_node_steps.proofs.CodeLaws.{item_read}
use Rattle.uefi_node_steps.proofs.reading.read_next.Goals as goal

pub returns-in_err-rest : goal.returns-in_err-rest
returns-in_err-rest g c =
    let text : List ℕ = g.T.Text.codes c.args.text in
    let size = c.item_of-layout.ensures.size in
    let zeros : take c.item_of-layout.result.size (replicate 16 0) ≡ replicate (item_of c.args.items).size 0 =
    take-replicate c.item_of-layout.result.size 16 0 c.item_of-layout.ensures.few ∙ ap (λ (n : ℕ). replicate n 0) size in
    let read = rw c.in_err-rest.was at c.read_item.ensures in
    let e = item_read c.args.items (g.S.Sink.content c.args.tail.now) text _ (read ∙ (λ i. steps_in no_list (c.item_of-layout.ensures.steps i) (zeros i, []) text)) in
    let p = err_from_is_err_and c.from_residual.result c.from_residual.ensures.1 in rw (p.1, p.2) e

pub returns : goal.returns
returns g c =
    let text : List ℕ = g.T.Text.codes c.args.text in
    let size = c.item_of-layout.ensures.size in
    let zeros : take c.item_of-layout.result.size (replicate 16 0) ≡ replicate (item_of c.args.items).size 0 =
    take-replicate c.item_of-layout.result.size 16 0 c.item_of-layout.ensures.few ∙ ap (λ (n : ℕ). replicate n 0) size in
    let read = rw c.in_ok-rest.was at c.read_item.ensures in
    ap (λ (l : List ℕ). Ok (l, g.T.Text.codes c.in_ok-rest.rest)) c.put_all.ensures
    ∙ item_read c.args.items (g.S.Sink.content c.args.tail.now) text _ (read ∙ (λ i. steps_in no_list (c.item_of-layout.ensures.steps i) (zeros i, []) text))
