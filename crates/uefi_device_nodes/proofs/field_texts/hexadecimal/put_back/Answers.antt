-- A block more is put.
use Rattle.std.proofs.Common.{◌∙◌, ◌-◌, ap, sym, List, ℕ, [], ◌++◌, append_assoc, length}
use Rattle.std.proofs.lemmas.List.{append-nil, take-append-drop}
use Rattle.uefi_text.proofs.Puts.{puts_as, puts_two}
use Rattle.uefi_device_nodes.specs.FieldTexts.{hex_back, hex_bytes}
use Rattle.uefi_device_nodes.proofs.HexBack.{back_more}
use Rattle.uefi_device_nodes.proofs.field_texts.hexadecimal.put_back.Goals as goal

pub loop-rest-init : goal.loop-rest-init
unfolding hex_bytes hex_back
loop-rest-init g c = ([], append-nil c.args.bytes.now, puts_as _ _ _ _ _ c.put_str.ensures (sym (append-nil c.args.text.now)))

pub loop-rest-preserved : goal.loop-rest-preserved
loop-rest-preserved g c =
    let so_far = c.loop-rest.invariant in
    let rest = c.loop-rest.rest.now in
    let before = c.split_at.result.0.now in
    let block = c.split_at.result.1.now in
    let cut = (λ i. c.split_at.ensures.front i ++ c.split_at.ensures.back i) ∙ take-append-drop (length rest - 32) rest in (
      block ++ so_far.0,
      sym (append_assoc before block so_far.0) ∙ ap (λ (xs : List ℕ). xs ++ so_far.0) cut ∙ so_far.1,
      puts_two _ _ _ _ _ _ _ so_far.2 c.put_block_back.ensures (back_more c.args.text.now block so_far.0),
    )

pub returns : goal.returns
returns g c =
    let so_far = c.loop-rest.invariant in
    puts_two _ _ _ _ _ _ _ so_far.2 c.put_block_back-2.ensures
    (back_more c.args.text.now c.loop-rest.rest.now so_far.0 ∙ ap (λ (xs : List ℕ). c.args.text.now ++ hex_back xs) so_far.1)
