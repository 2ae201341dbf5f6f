-- The bytes are turned.
use Rattle.std.proofs.Common.{◌≡◌, ◌∙◌, ap, ℕ, length, reverse, take, arith}
use Rattle.std.proofs.lemmas.List.{length-reverse, take_all}
use Rattle.uefi_text.proofs.Puts.{puts_as}
use Rattle.uefi_device_nodes.specs.FieldTexts.{hex_back, hex_bytes}
use Rattle.uefi_device_nodes.proofs.field_texts.hexadecimal.put_block_back.Goals as goal

pub returns : goal.returns
unfolding hex_back
returns g c =
    let bytes = c.args.bytes.now in
    let place = c.loop-place.place in
    let end : length bytes ≡ place = omega (arith, c.loop-place-test.false, c.loop-place.auto.place-end) in
    let all = ap (λ (k : ℕ). take k c.loop-place.turned) end ∙ c.loop-place.invariant.so_far
    ∙ take_all place (reverse bytes) (omega (arith, length-reverse bytes, c.loop-place-test.false)) in
    puts_as _ _ _ _ _ c.put_block.ensures (ap hex_bytes all)
