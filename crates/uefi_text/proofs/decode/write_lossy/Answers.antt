-- The bytes of the text, a NUL, and what followed them; or unchanged bytes.
use Rattle.std.proofs.Common.{arith, ap, drop, set, ◌∙◌, ◌++◌}
use Rattle.std.proofs.lemmas.Grind.{common_steps}
use Rattle.std.specs.Char.Utf16.{utf16_lossy_chars}
use Rattle.std.specs.Str.{encode_utf8_all}
use Rattle.uefi_text.proofs.Surrogates.{lossy_text}
use Rattle.uefi_text.proofs.TextsInBuffers.{counted_fits, counted_len, counted_needed, counted_unchanged, text_ended}
use Rattle.uefi_text.proofs.decode.write_lossy.Goals as goal

pub returns-clause-len : goal.returns-clause-len
returns-clause-len c = grind (arith, common_steps, counted_len)

pub returns-clause-bytes : goal.returns-clause-bytes
returns-clause-bytes c =
    let bytes = c.args.bytes.now in
    let text = encode_utf8_all (utf16_lossy_chars c.args.units.now) in
    let all = counted_fits _ bytes _ c.lossy_len-len.ensures c.if-bytes-len.false (grind (arith, common_steps)) in
    ap (λ us. set (us ++ drop c.lossy_len-len.result bytes) c.lossy_len-len.result 0) c.fill_lossy.ensures
    ∙ ap (λ n. set (text ++ drop n bytes) n 0) all
    ∙ text_ended text bytes (omega (arith, all, c.if-bytes-len.false))

pub returns-clause-of_text : goal.returns-clause-of_text
returns-clause-of_text c = lossy_text c.args.units.now

pub returns-then-bytes-len-clause-len : goal.returns-then-bytes-len-clause-len
returns-then-bytes-len-clause-len c = grind (arith, common_steps, counted_needed)

pub returns-then-bytes-len-clause-bytes : goal.returns-then-bytes-len-clause-bytes
returns-then-bytes-len-clause-bytes c = counted_unchanged _ _ _ c.lossy_len-len.ensures c.if-bytes-len.true

pub returns-then-bytes-len-clause-of_text : goal.returns-then-bytes-len-clause-of_text
returns-then-bytes-len-clause-of_text c = lossy_text c.args.units.now
