-- A text of ASCII is its own units, and none of its characters is refused.
use Rattle.std.proofs.Common.{All, ap, length, subst, arith}
use Rattle.std.proofs.lemmas.Grind.{common_steps}
use Rattle.uefi_text.specs.Scans.{IsAsciiTextByte}
use Rattle.uefi_text.proofs.Utf8Bytes.{ascii_text_chars}
use Rattle.uefi_text.proofs.Utf16.{undecided}
use Rattle.uefi_text.proofs.encode.write_text.Goals as goal

pub returns-then-is_ascii_text-clause-ok : goal.returns-then-is_ascii_text-clause-ok
returns-then-is_ascii_text-clause-ok c =
    let text = ascii_text_chars c.args.input.now (subst (All IsAsciiTextByte) c.as_bytes.ensures.value (c.is_ascii_text.ensures.0 c.if-is_ascii_text.true)) in
    omega (arith, c.write_ascii.ensures.len, ap length c.as_bytes-then-is_ascii_text.ensures.value, ap length text.0)

pub returns-then-is_ascii_text-clause-refusal : goal.returns-then-is_ascii_text-clause-refusal
returns-then-is_ascii_text-clause-refusal c =
    let text = ascii_text_chars c.args.input.now (subst (All IsAsciiTextByte) c.as_bytes.ensures.value (c.is_ascii_text.ensures.0 c.if-is_ascii_text.true)) in
    rw text.0 ((undecided c.args.buffer.now c.args.input.now text.1 (omega arith)).1)

pub returns-then-is_ascii_text-clause-buffer : goal.returns-then-is_ascii_text-clause-buffer
returns-then-is_ascii_text-clause-buffer c =
    let text = ascii_text_chars c.args.input.now (subst (All IsAsciiTextByte) c.as_bytes.ensures.value (c.is_ascii_text.ensures.0 c.if-is_ascii_text.true)) in
    let written = (undecided c.args.buffer.now c.args.input.now text.1 (omega arith)).0 in
    let same = c.as_bytes-then-is_ascii_text.ensures.value in
    rw text.0 (grind (arith, common_steps, same))
