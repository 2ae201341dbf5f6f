-- Each block adds the items from its start on, and after the last one that is all of them.
use Rattle.std.proofs.Common.{◌≡◌, ◌∙◌, ◌+◌, ◌-◌, ◌*◌, ◌≤◌, ◌++◌, ap, refl, length, map, take, drop, arith, append_assoc, take-add}
use Rattle.std.proofs.lemmas.List.{take_all}
use Rattle.std.proofs.lemmas.Grind.{common_steps}
use Rattle.uefi_text.specs.Packed.{packed_items}
use Rattle.uefi_text.proofs.Packing.{length-packed_items, packed_items-part, part-fits}
use Rattle.std.proofs.Math.Nat.{mul-le-mul_right}
use Rattle.uefi_text.proofs.unaligned_slice.push_blocks.Goals as goal

pub push_block-requires-clause-fits : goal.push_block-requires-clause-fits
push_block-requires-clause-fits g c =
    let size = g.T.Packed.SIZE in
    let start = c.loop-start.start in
    let count = c.min-count.result in
    let same : start + count - start ≡ count = omega arith in
    let fits = part-fits size start (start + count) c.args.len (length c.args.bytes.now) (omega arith) (omega arith) c.requires.fits in
    let fits_count : count * size ≤ length c.args.bytes.now - start * size = rw (← same) fits in
    grind (arith, common_steps)

pub loop-start-preserved : goal.loop-start-preserved
loop-start-preserved g c =
    let size = g.T.Packed.SIZE in
    let start = c.loop-start.start in
    let count = c.min-count.result in
    let bytes = c.args.bytes.now in
    let items = packed_items size c.args.len bytes in
    let same : start + count - start ≡ count = omega arith in
    let part = packed_items-part size start (start + count) c.args.len bytes (omega arith) (omega arith) in
    let of_count : packed_items size count (drop (start * size) bytes) ≡ take count (drop start items) = rw (← same) part in
    let places : length (take count c.loop-start.block) ≡ count = grind (arith, common_steps) in
    let rest : take (length bytes - start * c.SIZE.result) (drop (start * c.SIZE.result) bytes) ≡ drop (start * size) bytes = grind (arith, common_steps) in
    let pushed = rw (places, rest, of_count) at c.push_block.ensures.items in
    let so_far = ap (λ xs. xs ++ take count (drop start items)) c.loop-start.invariant.items in
    record {
      within = omega arith;
      block = grind (arith, common_steps);
      items = pushed ∙ so_far ∙ rw (append_assoc, take-add start count items) refl;
      len = grind (arith, common_steps);
      capacity = grind (arith, common_steps);
    }

pub returns : goal.returns
returns g c =
    let count = length-packed_items g.T.Packed.SIZE c.args.len c.args.bytes.now in
    let items = take_all c.loop-start.start (packed_items g.T.Packed.SIZE c.args.len c.args.bytes.now) (omega arith) in
    c.loop-start.invariant.items ∙ ap (λ xs. map g.T.Packed.number c.args.items.now.items ++ xs) items

pub slice_bounds-push_block-count : goal.slice_bounds-push_block-count
slice_bounds-push_block-count g c =
    rw c.SIZE.ensures (omega (arith, mul-le-mul_right g.T.Packed.SIZE c.loop-start.invariant.within, c.requires.fits))

pub slice_bounds-push_block-start : goal.slice_bounds-push_block-start
slice_bounds-push_block-start g c = omega (arith, slice_bounds-push_block-count g c)
