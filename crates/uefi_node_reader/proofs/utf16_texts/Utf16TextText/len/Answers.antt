use Rattle.std.proofs.Common.{◌∙◌, ◌-◌, sym}
use Rattle.uefi_node_reader.proofs.Utf16Texts.{length-padded}
use Rattle.uefi_node_reader.proofs.utf16_texts.Utf16TextText.len.Goals as goal

pub returns : goal.returns
returns c = c.saturating_sub.ensures ∙ sym (length-padded (c.args.self.end - 1) _)
