use Rattle.std.proofs.Common.{arith}
use Rattle.uefi_device_nodes.proofs.Places.{first_place, no_place}
use Rattle.uefi_node_reader.specs.NamedFiles.{ends_name}
use Rattle.uefi_node_reader.proofs.named_files.name_len.Goals as goal

pub returns-then-ends_name-clause-place : goal.returns-then-ends_name-clause-place
returns-then-ends_name-clause-place c =
    first_place ends_name c.args.text.now c.loop-place.place c.loop-place.invariant c.loop-place-test.true (cc)

pub returns-clause-place : goal.returns-clause-place
returns-clause-place c = no_place ends_name c.args.text.now (λ k h. c.loop-place.invariant k (omega arith))
