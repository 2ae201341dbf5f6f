-- The first device path and those of the bytes after it are all.
use Rattle.std.proofs.Common.{arith}
use Rattle.std.proofs.lemmas.Grind.{common_steps}
use Rattle.uefi_text.proofs.Runs.{gives_each}
use Rattle.uefi_device_path.specs.Views.{nodes_of, paths_left}
use Rattle.uefi_device_path.proofs.Lists.{few-ArePacked, first_split}
use Rattle.uefi_device_path.proofs.path_list.DevicePaths.of_list.Goals as goal

pub invariant_of-result : goal.invariant_of-result
invariant_of-result c =
    record { packed = rw c.split_at.ensures.back (first_split c.args.bytes.now c.args.first_len c.requires.packed c.requires.first).0 }

pub returns-clause-same : goal.returns-clause-same
unfolding paths_left
returns-clause-same c =
    let split = (first_split c.args.bytes.now c.args.first_len c.requires.packed c.requires.first).1 in
    grind (arith, common_steps, split)

pub returns-clause-bound : goal.returns-clause-bound
unfolding paths_left
returns-clause-bound c =
    let split = (first_split c.args.bytes.now c.args.first_len c.requires.packed c.requires.first).1 in
    let few = few-ArePacked c.args.bytes.now c.requires.packed in
    grind (arith, common_steps, split, few)

pub returns-clause-runs : goal.returns-clause-runs
returns-clause-runs c = gives_each nodes_of paths_left _
