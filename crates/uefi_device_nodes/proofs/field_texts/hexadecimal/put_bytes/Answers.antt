-- A block more is put.
use Rattle.std.proofs.Common.{◌∙◌, ap, refl, sym, List, ℕ, [], ◌++◌, append_assoc}
use Rattle.std.proofs.lemmas.List.{append-nil, take-append-drop}
use Rattle.uefi_text.proofs.Puts.{puts_as, puts_two}
use Rattle.uefi_device_nodes.specs.FieldTexts.{hex_bytes}
use Rattle.uefi_device_nodes.proofs.HexBack.{bytes_more}
use Rattle.uefi_device_nodes.proofs.field_texts.hexadecimal.put_bytes.Goals as goal

pub loop-rest-init : goal.loop-rest-init
unfolding hex_bytes
loop-rest-init g c = ([], refl, puts_as _ _ _ _ _ c.put_str.ensures (sym (append-nil c.args.text.now)))

pub loop-rest-preserved : goal.loop-rest-preserved
loop-rest-preserved g c =
    let so_far = c.loop-rest.invariant in
    let block = c.split_at.result.0.now in
    let after = c.split_at.result.1.now in
    let cut = (λ i. c.split_at.ensures.front i ++ c.split_at.ensures.back i) ∙ take-append-drop 32 c.loop-rest.rest.now in (
      so_far.0 ++ block,
      append_assoc so_far.0 block after ∙ ap (λ (xs : List ℕ). so_far.0 ++ xs) cut ∙ so_far.1,
      puts_two _ _ _ _ _ _ _ so_far.2 c.put_block.ensures (bytes_more c.args.text.now so_far.0 block),
    )

pub returns : goal.returns
returns g c =
    let so_far = c.loop-rest.invariant in
    puts_two _ _ _ _ _ _ _ so_far.2 c.put_block-2.ensures
    (bytes_more c.args.text.now so_far.0 c.loop-rest.rest.now ∙ ap (λ (xs : List ℕ). c.args.text.now ++ hex_bytes xs) so_far.1)
