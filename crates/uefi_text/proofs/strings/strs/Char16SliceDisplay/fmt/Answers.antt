-- Each block follows those before it.
use Rattle.std.proofs.Common.{rules, ◌∙◌, arith}
use Rattle.std.proofs.lemmas.Grind.{put_two}
use Rattle.uefi_text.proofs.PrintedTexts.{IsUtf8-block, block_written, scalars-characters}
use Rattle.uefi_text.proofs.strings.strs.Char16SliceDisplay.fmt.Goals as goal

pub from_utf8_unchecked-requires : goal.from_utf8_unchecked-requires
from_utf8_unchecked-requires g c =
    IsUtf8-block _ _ _ _ c.write_utf8-len.ensures.bytes (scalars-characters c.args.self.now.units.now c.args.self.now.are_characters)

pub loop-start-preserved : goal.loop-start-preserved
loop-start-preserved g c =
    let written = block_written c.args.self.now.units.now _ c.loop-start.start c.min.result (c.from_utf8_unchecked.ensures ∙ c.write_utf8-len.ensures.bytes) in
    record { within = omega arith; written = λ plain. put_two _ _ _ _ _ _ _ (c.loop-start.invariant.written plain) (search rules) written }
