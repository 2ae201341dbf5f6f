use Rattle.std.proofs.Common.{◌∙◌}
use Rattle.uefi_text.proofs.UnitBytes.{length-unit_bytes}
use Rattle.uefi_device_nodes.proofs.tails.RefSliceU16TailBytes.write_tail.Goals as goal

pub split-requires : goal.split-requires
split-requires c = c.requires ∙ length-unit_bytes c.args.self.now
