use Rattle.uefi_text.specs.Views.{items_left}
use Rattle.uefi_text.proofs.Runs.{gives_each}
use Rattle.uefi_text.proofs.unaligned_slice.UnalignedSlice.iter.Goals as goal

pub returns-clause-runs : goal.returns-clause-runs
returns-clause-runs g c = gives_each g.T.Packed.number items_left _
