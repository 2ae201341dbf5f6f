use Rattle.std.proofs.Common.{sym}
use Rattle.uefi_text.proofs.UnitBytes.{length-unit_bytes}
use Rattle.uefi_device_nodes.proofs.tails.RefSliceU16TailBytes.tail_len.Goals as goal

pub returns-clause-length : goal.returns-clause-length
returns-clause-length c = sym (length-unit_bytes c.args.self.now)
