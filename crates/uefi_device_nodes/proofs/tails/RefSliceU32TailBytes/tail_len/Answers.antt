use Rattle.std.proofs.Common.{sym}
use Rattle.uefi_device_nodes.proofs.FieldsRead.{length-words}
use Rattle.uefi_device_nodes.proofs.tails.RefSliceU32TailBytes.tail_len.Goals as goal

pub returns-clause-length : goal.returns-clause-length
returns-clause-length c = sym (length-words c.args.self.now)
