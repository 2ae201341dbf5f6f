use Rattle.std.proofs.Common.{◌≡◌, ◌-◌, List, ℕ, ap, ◌∙◌, drop, length, take, arith}
use Rattle.uefi_node_reader.specs.FieldReading.{clear_run}
use Rattle.uefi_node_reader.proofs.ClearTexts.{run_front}
use Rattle.uefi_node_reader.proofs.exact.clear_texts.cut_clear.Goals as goal

pub overflow_sub-len : goal.overflow_sub-len
overflow_sub-len g c =
    let is = run_front c.args.stop (g.T.Text.bytes c.args.text) in
    omega (arith, c.len.ensures, c.len-2.ensures, ap length c.past_clear-rest.ensures, is.0)

pub returns : goal.returns
returns g c =
    let text : List ℕ = g.T.Text.bytes c.args.text in
    let is = run_front c.args.stop text in
    let count : c.len.result - c.len-2.result ≡ length text - length (clear_run c.args.stop text).1 =
    (λ i. c.len.ensures i - (c.len-2.ensures ∙ ap length c.past_clear-rest.ensures) i) in
    (λ i. (
      (c.split_at.ensures.front ∙ ap (λ (n : ℕ). take n text) count ∙ is.1) i,
      (c.split_at.ensures.back ∙ ap (λ (n : ℕ). drop n text) count ∙ is.2) i,
    ))
