-- One byte more is written, and at the end the digits are a Rust text.
use Rattle.std.proofs.Common.{◌≡◌, ◌∙◌, ap, sym, subst, true, ℕ, ◌+◌, ◌*◌, ◌/◌, ◌%◌, ◌<◌, get_or, length, set, take, arith}
use Rattle.std.proofs.lemmas.Grind.{common_steps}
use Rattle.std.specs.Fmt.{digit_glyph}
use Rattle.std.proofs.lemmas.List.{length-set, take_all}
use Rattle.std.specs.Str.{IsUtf8}
use Rattle.uefi_device_nodes.specs.FieldTexts.{hex_bytes}
use Rattle.uefi_device_nodes.proofs.HexBlocks.{byte_written, bytes_utf8}
use Rattle.uefi_device_nodes.proofs.field_texts.hexadecimal.put_block.Goals as goal

pub loop-place-preserved : goal.loop-place-preserved
loop-place-preserved g c =
    let l = c.loop-place in
    let byte = get_or c.args.bytes.now l.place 0 in
    let small : byte < 256 = (c.type_inv.bytes l.place).fits in
    let high : c.digit.result ≡ digit_glyph true (byte / 16) = grind (arith, c.digit.ensures, c.from.ensures) in
    let low : c.digit-in-loop-place.result ≡ digit_glyph true (byte % 16) = grind (arith, c.digit-in-loop-place.ensures, c.from-in-loop-place.ensures) in
    record {
      long = length-set _ _ _ ∙ length-set _ _ _ ∙ l.invariant.long;
      so_far = ap (λ (d : ℕ). take (2 * (l.place + 1)) (set (set l.digits (2 * l.place) d) (2 * l.place + 1) c.digit-in-loop-place.result)) high
          ∙ ap (λ (d : ℕ). take (2 * (l.place + 1)) (set (set l.digits (2 * l.place) (digit_glyph true (byte / 16))) (2 * l.place + 1) d)) low
          ∙ byte_written c.args.bytes.now l.digits l.place c.loop-place-test.true small (omega (arith, l.invariant.long, c.requires, c.loop-place-test.true)) l.invariant.so_far;
    }

pub from_utf8_unchecked-requires : goal.from_utf8_unchecked-requires
from_utf8_unchecked-requires g c =
    let bytes = c.args.bytes.now in
    let all = ap hex_bytes (take_all c.loop-place.place bytes c.loop-place-test.false) in
    let so_far = c.loop-place in
    let written : take (2 * length bytes) so_far.digits ≡ hex_bytes bytes =
    grind (arith, common_steps, so_far.invariant.so_far, all, c.loop-place-test.false, so_far.auto.place-end) in
    subst IsUtf8 (sym written) (bytes_utf8 bytes)
