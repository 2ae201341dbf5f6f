-- The digits are a Rust text.
use Rattle.std.proofs.Common.{◌∙◌, ◌-◌, drop, nat_lt, subst, sym, arith}
use Rattle.std.proofs.lemmas.List.{length-drop, take_all}
use Rattle.std.specs.Str.{IsUtf8}
use Rattle.uefi_text.proofs.Numerals.{digits_utf8}
use Rattle.uefi_text.proofs.number_texts.put_digits.Goals as goal

pub from_utf8_unchecked-requires : goal.from_utf8_unchecked-requires
from_utf8_unchecked-requires g c =
    let start = c.write_digits-start.result in
    let text = c.write_digits-start.new.buffer in
    let all = take_all (64 - start) (drop start text) (omega (arith, length-drop start text, c.write_digits-start.array_long)) in
    subst IsUtf8 (sym (all ∙ c.write_digits-start.ensures.digits))
    (digits_utf8 c.args.base (nat_lt 10 c.args.base) c.requires.some c.requires.small c.args.n)
