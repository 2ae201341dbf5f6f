-- Each block follows those before it.
use Rattle.std.proofs.Common.{rules, ◌∙◌, arith}
use Rattle.std.proofs.lemmas.Grind.{put_two}
use Rattle.uefi_text.proofs.PrintedTexts.{IsUtf8-block, block_written, scalars-latin1}
use Rattle.uefi_text.proofs.strings.latin1.CStr8Display.fmt.Goals as goal

pub from_utf8_unchecked-requires : goal.from_utf8_unchecked-requires
from_utf8_unchecked-requires g c =
    IsUtf8-block _ _ _ _ c.write_latin1-len.ensures.bytes (scalars-latin1 c.text-text.result.now (λ k. omega (arith, c.type_inv.text k)))

pub loop-start-preserved : goal.loop-start-preserved
loop-start-preserved g c =
    let written = block_written c.text-text.result.now _ c.loop-start.start c.min.result (c.from_utf8_unchecked.ensures ∙ c.write_latin1-len.ensures.bytes) in
    record { within = omega arith; written = λ plain. put_two _ _ _ _ _ _ _ (c.loop-start.invariant.written plain) (search rules) written }
