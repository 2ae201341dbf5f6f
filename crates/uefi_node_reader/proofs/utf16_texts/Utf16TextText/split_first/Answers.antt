use Rattle.std.proofs.Common.{◌+◌, ◌-◌, ◌*◌, ◌<◌, ◌/◌, ◌∷◌, List, ℕ, ◌∙◌, ap, sym, arith, length, slice_index}
use Rattle.uefi_node_reader.proofs.Utf16Texts.{ascii_first, bytes_at}
use Rattle.uefi_node_reader.proofs.utf16_texts.Utf16TextText.split_first.Goals as goal
use Rattle.uefi_node_reader.proofs.utf16_texts.Utf16TextText.split_first.Goals.{then-index-units+then-units-index-lt128, else-index-units}

pub returns : goal.returns
returns c =
    let text = c.args.self in
    let units = text.units.now.now in
    let some : 0 < text.end - 1 = omega (arith, c.if-self-le1.false) in
    let all = c.units_of-units.ensures in
    elim c.if-index-units.branch [
      | then-index-units+then-units-index-lt128 w ↦
          ascii_first units text.place (text.end - 1) (omega (arith, w.if-index-units.true, ap length all))
          (omega (arith, w.if-units-index-lt128.true, ap (λ (us : List ℕ). slice_index us (text.place / 4)) all)) some
          ∙ (λ i. slice_index (sym all i) (text.place / 4) ∷ bytes_at units (4 * (text.place / 4 + 1)) (text.end - 1 - 1))
          ∙ (λ i. (sym w.byte-is i).0 ∷ bytes_at units ((sym w.byte-is i).1) (text.end - 1 - 1))
      | else-index-units w ↦
          rw all at w.byte_at.ensures (text.end - 1) some ∙ (λ i. (sym w.byte-is i).0 ∷ bytes_at units ((sym w.byte-is i).1) (text.end - 1 - 1))
    ]
