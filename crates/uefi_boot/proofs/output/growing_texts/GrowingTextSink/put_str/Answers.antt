use Rattle.std.proofs.Output.{writes_in_calls_single}
use Rattle.uefi_boot.proofs.output.growing_texts.GrowingTextSink.put_str.Goals as goal

pub returns-then-not-self : goal.returns-then-not-self
returns-then-not-self c = writes_in_calls_single _ _ _ _ _

pub returns-else-not-is_empty : goal.returns-else-not-is_empty
returns-else-not-is_empty c = writes_in_calls_single _ _ _ _ _
