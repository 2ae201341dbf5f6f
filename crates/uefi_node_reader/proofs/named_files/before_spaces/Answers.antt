use Rattle.std.proofs.Common.{◌≡◌, ◌∙◌, ℕ, ap, arith, false, get_or, length, rules, subst, sym, true}
use Rattle.std.proofs.lemmas.List.{length-drop}
use Rattle.std.specs.Char.{is_ascii_whitespace}
use Rattle.uefi_node_reader.proofs.NextBytes.{byte_at}
use Rattle.uefi_node_reader.proofs.Spaces.{LastSeen, seen_all, seen_blank, seen_other}
use Rattle.uefi_node_reader.proofs.named_files.before_spaces.Goals as goal
use Rattle.uefi_node_reader.proofs.named_files.before_spaces.Goals.{in-Some+then-not-is_ascii_whitespace, in-Some+else-not-is_ascii_whitespace, in_default}

pub loop-place-preserved : goal.loop-place-preserved
loop-place-preserved g c =
    let text = g.T.Text.bytes c.args.text in
    let place = c.loop-place.place in
    let seen = c.loop-place.invariant.1 in
    elim c.match-split_first.branch [
      | in-Some+then-not-is_ascii_whitespace w ↦ (
          let after = g.T.Text.bytes w.in-Some.after in
          let moved : g.T.Text.bytes c.match-split_first.rest ≡ after = search rules in
          let here = byte_at text _ after place w.in-Some.byte c.loop-place.invariant.0 w.in-Some.ensures in
          let other : is_ascii_whitespace (get_or text place 0) ≡ false =
          ap is_ascii_whitespace (sym here.1) ∙ sym w.is_ascii_whitespace.ensures.value ∙ w.if-not-is_ascii_whitespace.true in
          (moved ∙ here.2, rw w.end-is (seen_other text place c.loop-place.end seen other))
          )
      | in-Some+else-not-is_ascii_whitespace w ↦ (
          let after = g.T.Text.bytes w.in-Some.after in
          let moved : g.T.Text.bytes c.match-split_first.rest ≡ after = search rules in
          let here = byte_at text _ after place w.in-Some.byte c.loop-place.invariant.0 w.in-Some.ensures in
          let blank : is_ascii_whitespace (get_or text place 0) ≡ true =
          ap is_ascii_whitespace (sym here.1) ∙ sym w.is_ascii_whitespace.ensures.value ∙ w.if-not-is_ascii_whitespace.false in
          (moved ∙ here.2, rw w.end-is (seen_blank text place c.loop-place.end seen blank))
          )
      | in_default w ↦ absurd (omega (
        arith,
        length-drop place text,
        ap length (sym c.loop-place.invariant.0 ∙ w.in_default.ensures),
        c.loop-place-test.true,
        c.len-place-end.ensures,
      ))
    ]

pub returns : goal.returns
returns g c =
    let text = g.T.Text.bytes c.args.text in
    let whole : c.loop-place.place ≡ length text = omega (arith, c.loop-place-test.false, c.len-place-end.ensures, c.loop-place.auto) in
    c.split_at.ensures.front ∙ seen_all text c.loop-place.end
    (subst (λ (n : ℕ). LastSeen text n c.loop-place.end) whole c.loop-place.invariant.1)
