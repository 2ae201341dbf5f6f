-- What follows the ASCII that both begin with decides.
use Rattle.std.proofs.Common.{All, ◌≡◌, ◌↔◌, ◌-◌, ap, drop, length, take, IsTrue, arith}
use Rattle.std.proofs.lemmas.List.{length-drop, take_all}
use Rattle.std.specs.Str.{chars}
use Rattle.std.proofs.lemmas.Str.{IsCharBoundary-from_drop}
use Rattle.uefi_text.specs.EqStrUntilNul.{IsEqualUntilNul}
use Rattle.uefi_text.specs.Scans.{IsAsciiTextByte}
use Rattle.uefi_text.specs.Views.{text_of}
use Rattle.uefi_text.proofs.Prefixes.{equal_after_ascii}
use Rattle.uefi_text.proofs.Utf8Bytes.{IsUtf8-after_ascii_text}
use Rattle.uefi_text.proofs.strings.strs.CStr16EqStrUntilNul.eq_str_until_nul.Goals as goal

pub range_from-requires : goal.range_from-requires
range_from-requires c above =
    let bytes = c.args.other.now in
    let n = c.same_ascii_len-len.result in
    let ascii : All IsAsciiTextByte (take n bytes) = rw c.as_bytes.ensures.value at c.same_ascii_len-len.ensures.ascii in
    IsCharBoundary-from_drop bytes n (omega (arith, c.same_ascii_len-len.ensures.within.1, ap length c.as_bytes.ensures.value)) (IsUtf8-after_ascii_text n bytes ascii c.utf8.other)

pub returns : goal.returns
returns c =
    let text = text_of c.args.self.now in
    let bytes = c.args.other.now in
    let n = c.same_ascii_len-len.result in
    let ascii : All IsAsciiTextByte (take n bytes) = rw c.as_bytes.ensures.value at c.same_ascii_len-len.ensures.ascii in
    let same : take n text ≡ take n bytes = rw (c.as_bytes.ensures.value, c.to_u16_slice-units.ensures) at c.same_ascii_len-len.ensures.same in
    let whole : take (length text - n) (drop n text) ≡ drop n text =
    take_all (length text - n) (drop n text) (omega (arith, length-drop n text)) in
    let rest : IsTrue c.are_equal_by_block.result ↔ IsEqualUntilNul (drop n text) (chars (drop n bytes)) =
    rw (c.range_from.ensures.value, c.to_u16_slice-units.ensures, whole) at c.are_equal_by_block.ensures in
    equal_after_ascii c.are_equal_by_block.result n text bytes same ascii c.utf8.other rest
