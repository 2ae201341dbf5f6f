use Rattle.std.proofs.Common.{arith}
use Rattle.uefi_node_reader.proofs.Utf16Texts.{length_of}
use Rattle.uefi_node_reader.proofs.utf16_texts.Utf16TextNameText.len_with_end.Goals as goal

pub returns : goal.returns
returns c = omega (arith, c.max.ensures, length_of c.args.self)
