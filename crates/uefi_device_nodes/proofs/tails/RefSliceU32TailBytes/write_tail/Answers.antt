use Rattle.std.proofs.Common.{◌∙◌}
use Rattle.uefi_device_nodes.proofs.FieldsRead.{length-words}
use Rattle.uefi_device_nodes.proofs.tails.RefSliceU32TailBytes.write_tail.Goals as goal

pub put_words-requires : goal.put_words-requires
put_words-requires c = c.requires ∙ length-words c.args.self.now
