use Rattle.std.proofs.Common.{◌∙◌}
use Rattle.uefi_text.proofs.Items.{items-in_places, places-fit}
use Rattle.uefi_text.proofs.unaligned_slice.UnalignedSlice.copy_to.Goals as goal

pub read_items-requires : goal.read_items-requires
read_items-requires g c = places-fit c.args.self.now _ c.requires

pub read_blocks-requires : goal.read_blocks-requires
read_blocks-requires g c = places-fit c.args.self.now _ c.requires

pub returns-then-dest-le-FEW_ITEMS : goal.returns-then-dest-le-FEW_ITEMS
returns-then-dest-le-FEW_ITEMS g c = c.read_items.ensures ∙ items-in_places c.args.self.now _ c.requires

pub returns-else-dest-le-FEW_ITEMS : goal.returns-else-dest-le-FEW_ITEMS
returns-else-dest-le-FEW_ITEMS g c = c.read_blocks.ensures ∙ items-in_places c.args.self.now _ c.requires
