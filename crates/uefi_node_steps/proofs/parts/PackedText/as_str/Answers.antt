use Rattle.std.proofs.Common.{subst, sym}
use Rattle.std.specs.Str.{IsUtf8}
use Rattle.uefi_node_steps.proofs.PackedTexts.{texts_utf8}
use Rattle.uefi_node_steps.proofs.parts.PackedText.as_str.Goals as goal

pub from_utf8_unchecked-requires : goal.from_utf8_unchecked-requires
from_utf8_unchecked-requires c = subst IsUtf8 (sym c.part.ensures) (texts_utf8 c.args.self.number)
