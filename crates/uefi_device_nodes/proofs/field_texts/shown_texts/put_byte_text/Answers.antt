-- One byte more is put, and the run after it.
use Rattle.std.proofs.Common.{◌∙◌, ap, List, ℕ, ◌++◌, ◌∷◌, append_assoc, slice_index}
use Rattle.uefi_text.proofs.Puts.{puts_three}
use Rattle.uefi_device_nodes.specs.FieldTexts.{shown_byte, shown_bytes}
use Rattle.uefi_device_nodes.proofs.HexBack.{shown_more}
use Rattle.uefi_device_nodes.proofs.Places.{one_then}
use Rattle.uefi_device_nodes.proofs.field_texts.shown_texts.put_byte_text.Goals as goal

pub rest-preserved : goal.rest-preserved
unfolding shown_bytes
rest-preserved g c =
    let so_far = c.rest.invariant in
    let first = slice_index c.rest.rest.now 0 in
    let run = c.put_printable-rest-in-len1-up.ensures in
    let after = c.put_printable-rest-in-len1-up.result.now in (
      so_far.0 ++ first ∷ run.0,
      append_assoc so_far.0 (first ∷ run.0) after
          ∙ ap (λ (xs : List ℕ). so_far.0 ++ xs) (ap (λ (xs : List ℕ). first ∷ xs) run.1 ∙ one_then c.rest.rest.now c.in-len1-up.len_at_least)
          ∙ so_far.1,
      puts_three _ _ _ _ _ _ _ _ _ so_far.2 c.put_byte.ensures run.2
          (shown_more shown_byte c.args.text.now so_far.0 (first ∷ run.0)),
    )
