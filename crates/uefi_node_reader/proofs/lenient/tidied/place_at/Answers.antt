use Rattle.std.proofs.Common.{◌≡◌, ℕ, List, length, ap, sym, ◌∙◌, arith, rules}
use Rattle.std.proofs.lemmas.Bool.{ne_eqb}
use Rattle.std.proofs.lemmas.List.{length-drop}
use Rattle.uefi_node_reader.specs.LenientCalls.{place_at}
use Rattle.uefi_node_reader.proofs.NextBytes.{next-rest}
use Rattle.uefi_node_reader.proofs.KeptBytes.{place_at-blank, place_at-more}
use Rattle.uefi_node_reader.proofs.lenient.tidied.place_at.Goals as goal
use Rattle.uefi_node_reader.proofs.lenient.tidied.place_at.Goals.{in-Some+then-not-is_blank+else-left-eq0, in-Some+else-not-is_blank, in_default}

pub loop-place-preserved : goal.loop-place-preserved
loop-place-preserved g c =
    let text = g.T.Text.bytes c.args.text in
    let before = c.loop-place.invariant.1 in
    elim c.match-split_first.branch [
      | in-Some+then-not-is_blank+else-left-eq0 w ↦ (
          let after = g.T.Text.bytes w.in-Some.after in
          let moved : g.T.Text.bytes c.match-split_first.rest ≡ after = search rules in
          let e = sym c.loop-place.invariant.0 ∙ w.in-Some.ensures in
          let more = ap (λ (l : List ℕ). place_at c.loop-place.left l) w.in-Some.ensures
          ∙ place_at-more c.loop-place.left w.in-Some.byte after (sym w.is_blank.ensures ∙ w.if-not-is_blank.true)
          (ne_eqb c.loop-place.left 0 w.if-left-eq0.false) in
          (moved ∙ next-rest text after c.loop-place.place w.in-Some.byte e, rw (w.left-is, moved) (omega (arith, more, before)))
          )
      | in-Some+else-not-is_blank w ↦ (
          let after = g.T.Text.bytes w.in-Some.after in
          let moved : g.T.Text.bytes c.match-split_first.rest ≡ after = search rules in
          let e = sym c.loop-place.invariant.0 ∙ w.in-Some.ensures in
          let more = ap (λ (l : List ℕ). place_at c.loop-place.left l) w.in-Some.ensures
          ∙ place_at-blank c.loop-place.left w.in-Some.byte after (sym w.is_blank.ensures ∙ w.if-not-is_blank.false) in
          (moved ∙ next-rest text after c.loop-place.place w.in-Some.byte e, rw (w.left-is, moved) (omega (arith, more, before)))
          )
      | in_default w ↦ absurd (omega (
        arith,
        length-drop c.loop-place.place text,
        ap length (sym c.loop-place.invariant.0 ∙ w.in_default.ensures),
        c.loop-place-test.true,
        c.len-place-end.ensures,
      ))
    ]
