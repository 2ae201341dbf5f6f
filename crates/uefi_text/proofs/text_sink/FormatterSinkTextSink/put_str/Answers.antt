use Rattle.std.proofs.Common.{rules, arith}
use Rattle.std.proofs.lemmas.Grind.{common_steps}
use Rattle.std.proofs.Output.{writes_in_calls_single}
use Rattle.uefi_text.proofs.text_sink.FormatterSinkTextSink.put_str.Goals as goal

pub returns-then-is_ok : goal.returns-then-is_ok
returns-then-is_ok g c = writes_in_calls_single _ _ _ _ (search rules, (search rules, c.write_str-self.ensures.writes))

pub returns-else-is_ok : goal.returns-else-is_ok
returns-else-is_ok g c = writes_in_calls_single _ _ _ _ (search rules, (search rules, λ plain ok. grind (arith, common_steps)))
