use Rattle.std.proofs.lemmas.List.{map-append}
use Rattle.uefi_text.proofs.unaligned_slice.push_block.Goals as goal

pub returns-clause-items : goal.returns-clause-items
returns-clause-items g c = rw (c.push_all.ensures.items, map-append, c.read_items.ensures)
