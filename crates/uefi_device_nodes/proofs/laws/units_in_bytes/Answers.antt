use Rattle.std.proofs.Common.{refl, arith}
use Rattle.uefi_text.proofs.UnitBytes.{length-unit_bytes, units_of_bytes-unit_bytes}
use Rattle.uefi_device_nodes.proofs.laws.units_in_bytes.Goals as goal

pub returns-clause-read : goal.returns-clause-read
returns-clause-read c = units_of_bytes-unit_bytes c.args.units.now

pub returns-clause-file : goal.returns-clause-file
returns-clause-file c =
    record { device_type = refl; sub_type = refl; whole = omega (arith, length-unit_bytes c.args.units.now) }
