use Rattle.std.proofs.Common.{◌≡◌, ℕ, Bool, length, take, ap, sym, ◌∙◌, arith, rules}
use Rattle.std.specs.Prelude.{◌==◌}
use Rattle.std.proofs.lemmas.Bool.{eq-eqb, ne_eqb}
use Rattle.std.proofs.lemmas.List.{length-drop, length-take}
use Rattle.std.proofs.lemmas.List.Sums.{count_by-le-length, length-filter}
use Rattle.uefi_node_reader.proofs.NextBytes.{next-fails, next-passes, next-rest}
use Rattle.uefi_node_reader.proofs.errors.mistakes.field_at.Goals as goal
use Rattle.uefi_node_reader.proofs.errors.mistakes.field_at.Goals.{in-Some+then-byte-eq44, in-Some+else-byte-eq44, in_default}

pub overflow_add-field : goal.overflow_add-field
overflow_add-field g c =
    let text = g.T.Text.bytes c.args.call in
    let front = take c.bytes.counter text in
    let comma : ℕ → Bool = λ c. c == 44 in
    omega (arith, c.bytes.invariant.1, length-filter comma front, count_by-le-length comma front, length-take c.bytes.counter text)

pub bytes-preserved : goal.bytes-preserved
bytes-preserved g c =
    let text = g.T.Text.bytes c.args.call in
    let comma : ℕ → Bool = λ c. c == 44 in
    elim c.match-split_first.branch [
      | in-Some+then-byte-eq44 w ↦ (
          let moved : g.T.Text.bytes c.match-split_first.rest ≡ g.T.Text.bytes w.in-Some.after = search rules in
          let e = sym c.bytes.invariant.0 ∙ w.in-Some.ensures in (
            moved ∙ next-rest text (g.T.Text.bytes w.in-Some.after) c.bytes.counter w.in-Some.byte e,
            omega (arith, c.bytes.invariant.1, next-passes comma text (g.T.Text.bytes w.in-Some.after) c.bytes.counter w.in-Some.byte e (eq-eqb w.in-Some.byte 44 w.if-byte-eq44.true)),
          ))
      | in-Some+else-byte-eq44 w ↦ (
          let moved : g.T.Text.bytes c.match-split_first.rest ≡ g.T.Text.bytes w.in-Some.after = search rules in
          let e = sym c.bytes.invariant.0 ∙ w.in-Some.ensures in (
            moved ∙ next-rest text (g.T.Text.bytes w.in-Some.after) c.bytes.counter w.in-Some.byte e,
            omega (arith, c.bytes.invariant.1, next-fails comma text (g.T.Text.bytes w.in-Some.after) c.bytes.counter w.in-Some.byte e (ne_eqb w.in-Some.byte 44 w.if-byte-eq44.false)),
          ))
      | in_default w ↦ absurd (omega (
        arith,
        length-drop c.bytes.counter text,
        ap length (sym c.bytes.invariant.0 ∙ w.in_default.ensures),
        c.bytes-test.true,
        c.len.ensures,
        c.saturating_sub-end.ensures,
      ))
    ]
