-- Each character follows those before it.
use Rattle.std.proofs.Common.{arith}
use Rattle.std.proofs.lemmas.Grind.{common_steps}
use Rattle.uefi_text.proofs.PrintedTexts.{encode_utf8_all-push}
use Rattle.uefi_text.proofs.strings.strs.Char16Slice.write_each_to.Goals as goal

pub loop-c-preserved : goal.loop-c-preserved
loop-c-preserved g c =
    let more = encode_utf8_all-push c.loop-c.yielded c.in-Some.c in
    record { taken = grind (arith, common_steps, more); to_come = grind (arith, common_steps) }
