-- A text of ASCII is its own units, and none of its characters is refused.
use Rattle.std.proofs.Common.{All, subst, arith}
use Rattle.std.proofs.lemmas.Grind.{common_steps}
use Rattle.uefi_text.specs.Scans.{IsAsciiTextByte}
use Rattle.uefi_text.proofs.Utf8Bytes.{ascii_text_chars}
use Rattle.uefi_text.proofs.encode.try_units.Goals as goal

pub returns-then-is_ascii_text : goal.returns-then-is_ascii_text
returns-then-is_ascii_text g c =
    let text = ascii_text_chars c.args.text.now (subst (All IsAsciiTextByte) c.as_bytes.ensures.value (c.is_ascii_text.ensures.0 c.if-is_ascii_text.true)) in
    let same = c.as_bytes-then-is_ascii_text.ensures.value in
    grind (arith, common_steps, text.0, text.1, same)
