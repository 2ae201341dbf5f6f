use Rattle.uefi_text.specs.Views.{into_iter_items_left}
use Rattle.uefi_text.proofs.Runs.{gives_each}
use Rattle.uefi_text.proofs.unaligned_slice.UnalignedSliceIntoIterator.into_iter.Goals as goal

pub returns : goal.returns
unfolding into_iter_items_left
returns g c = record {
  into_iter_gives = (c.iter.ensures.same, c.iter.ensures.bound, gives_each g.T.Packed.number into_iter_items_left _);
}
