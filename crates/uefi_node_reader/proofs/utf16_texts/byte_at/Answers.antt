use Rattle.std.proofs.Common.{◌≡◌, ◌-◌, ◌%◌, ◌∷◌, ◌∙◌, min, ap, sym, arith, length, slice_index}
use Rattle.std.specs.Prelude.{encode_utf8}
use Rattle.std.specs.Char.{len_utf8}
use Rattle.uefi_node_reader.proofs.Utf16Texts.{byte_inside, byte_last, bytes_at}
use Rattle.uefi_node_reader.proofs.utf16_texts.byte_at.Goals as goal
use Rattle.uefi_node_reader.proofs.utf16_texts.byte_at.Goals.{then-passed-bytes, else-passed-bytes}

pub returns : goal.returns
returns c = λ n some.
    let units = c.args.units.now in
    let char = c.first_char_or_nul-c in
    let p = c.min-passed.result in
    let bytes : c.as_bytes-bytes.result.now ≡ encode_utf8 char.result.0 = c.as_bytes-bytes.ensures.value ∙ c.encode_utf8.ensures.value in
    let len : length c.as_bytes-bytes.result.now ≡ len_utf8 char.result.0 = ap length c.as_bytes-bytes.ensures.value ∙ c.encode_utf8.ensures.len in
    let passed : p ≡ min (c.args.place % 4) (len_utf8 char.result.0 - 1) = omega (arith, c.min-passed.ensures, len) in
    elim c.if-passed-bytes.branch [
      | then-passed-bytes w ↦
          byte_inside units c.units_from.result.now c.args.place char.result.0 char.result.1.now c.units_from.ensures char.ensures.chars char.ensures.within p
          passed n some (omega (arith, w.if-passed-bytes.true, len))
          ∙ (λ i. slice_index (sym bytes i) p ∷ bytes_at units (sym w.next-is i) (n - 1))
      | else-passed-bytes w ↦
          byte_last units c.units_from.result.now c.args.place char.result.0 char.result.1.now c.units_from.ensures char.ensures.chars char.ensures.within p
          passed n some (omega (arith, w.if-passed-bytes.false, len))
          ∙ (λ i. slice_index (sym bytes i) p ∷ bytes_at units (sym w.next-is i) (n - 1))
    ]
