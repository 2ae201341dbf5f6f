use Rattle.std.proofs.Common.{arith}
use Rattle.uefi_device_nodes.proofs.Places.{first_place, no_place}
use Rattle.uefi_node_reader.specs.NamedFiles.{ends_name}
use Rattle.uefi_node_reader.proofs.utf16_texts.name_units.Goals as goal

pub returns-then-units-place-clause-place : goal.returns-then-units-place-clause-place
returns-then-units-place-clause-place c =
    first_place ends_name c.args.units.now c.loop-place.place c.loop-place.invariant c.loop-place-test.true (cc)

pub returns-clause-place : goal.returns-clause-place
returns-clause-place c = no_place ends_name c.args.units.now (λ k h. c.loop-place.invariant k (omega arith))
