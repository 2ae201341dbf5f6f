use Rattle.std.proofs.Common.{◌≡◌, ℕ, length, take, ap, sym, ◌∙◌, arith}
use Rattle.std.specs.Prelude.{Some}
use Rattle.std.proofs.lemmas.List.{length-drop}
use Rattle.uefi_node_reader.proofs.NextBytes.{next-rest}
use Rattle.uefi_node_reader.proofs.lenient.tidied.cut_before.Goals as goal

pub returns-in_err-back : goal.returns-in_err-back
returns-in_err-back g c = λ place is within.
    absurd (omega (arith, length-drop place (g.T.Text.bytes c.args.text), within, ap length (sym is ∙ c.in_err-back.ensures)))

pub returns : goal.returns
returns g c = λ place is within.
    let text = g.T.Text.bytes c.args.text in
    let size : c.saturating_sub.result ≡ place =
    omega (arith, length-drop place text, ap length is, within, c.len.ensures, c.len-2.ensures, c.saturating_sub.ensures) in
    let front = c.split_at-front.ensures.front ∙ ap (λ (n : ℕ). take n text) size in
    let back = next-rest text (g.T.Text.bytes c.in_ok-back.back) place c.in_ok-back.field-0-0 (sym is ∙ c.in_ok-back.ensures) in
    (λ i. Some (front i, back i))
