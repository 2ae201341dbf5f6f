-- Each block writes the items from its start on, and after the last one that is all of them.
use borrow.Rule.Slice.PartMut.{put_mid, same_len_mid}
use Rattle.std.proofs.Common.{◌≡◌, ◌∙◌, ◌+◌, ◌-◌, ◌*◌, ◌≤◌, ◌++◌, ap, sym, length, map, take, drop, arith, take-add}
use Rattle.std.proofs.lemmas.List.{length-take, length-take-le, map-append, nil_from_length, take_all}
use Rattle.std.proofs.lemmas.Slice.{take-put_mid}
use Rattle.std.proofs.lemmas.Grind.{common_steps}
use Rattle.uefi_text.specs.Packed.{packed_items}
use Rattle.uefi_text.proofs.Packing.{length-packed_items, packed_items-part, part-fits}
use Rattle.std.proofs.Math.Nat.{mul-le-mul_right}
use Rattle.uefi_text.proofs.unaligned_slice.read_blocks.Goals as goal

pub slice_bounds-read_le-end : goal.slice_bounds-read_le-end
slice_bounds-read_le-end g c =
    let some : 1 ≤ length c.args.dest.now = omega arith in
    let fits : c.SIZE.result ≤ length c.args.bytes.now = rw c.SIZE.ensures (omega (arith, mul-le-mul_right g.T.Packed.SIZE some, c.requires)) in
    sym (length-take-le c.SIZE.result c.args.bytes.now fits)

pub returns-then-len-eq0 : goal.returns-then-len-eq0
returns-then-len-eq0 g c =
    ap (map g.T.Packed.number) (nil_from_length c.args.dest.now c.if-len-eq0.true)
    ∙ sym (ap (λ n. packed_items g.T.Packed.SIZE n c.args.bytes.now) c.if-len-eq0.true)

pub read_le-first-requires : goal.read_le-first-requires
read_le-first-requires g c = sym (slice_bounds-read_le-end g c) ∙ c.SIZE.ensures

pub loop-start-smaller : goal.loop-start-smaller
loop-start-smaller g c = omega arith

pub read_block-requires-clause-fits : goal.read_block-requires-clause-fits
read_block-requires-clause-fits g c =
    let size = g.T.Packed.SIZE in
    let start = c.loop-start.start in
    let count = c.min-count.result in
    let len = length c.args.dest.now in
    let same : start + count - start ≡ count = omega arith in
    let fits = part-fits size start (start + count) len (length c.args.bytes.now) (omega arith) (omega arith) c.requires in
    let fits_count : count * size ≤ length c.args.bytes.now - start * size = rw (← same) fits in
    let places : length (take (start + count - start) (drop start c.loop-start.dest)) ≡ count = grind (arith, common_steps) in
    grind (arith, common_steps)

pub loop-start-preserved : goal.loop-start-preserved
loop-start-preserved g c =
    let number = g.T.Packed.number in
    let size = g.T.Packed.SIZE in
    let start = c.loop-start.start in
    let count = c.min-count.result in
    let bytes = c.args.bytes.now in
    let dest = c.loop-start.dest in
    let new = c.read_block.new.dest in
    let so_far = c.loop-start.invariant in
    let len = length c.args.dest.now in
    let items = packed_items size len bytes in
    let same : start + count - start ≡ count = omega arith in
    let part = packed_items-part size start (start + count) len bytes (omega arith) (omega arith) in
    let of_count : packed_items size count (drop (start * size) bytes) ≡ take count (drop start items) = rw (← same) part in
    let places : length (take (start + count - start) (drop start dest)) ≡ count = grind (arith, common_steps) in
    let rest : take (length bytes - start * c.SIZE-in-loop-start.result) (drop (start * c.SIZE-in-loop-start.result) bytes) ≡ drop (start * size) bytes = grind (arith, common_steps) in
    let written : map number new ≡ take count (drop start items) = rw (places, rest, of_count) at c.read_block.ensures.items in
    let as_many : length new ≡ count = c.read_block.ensures.len ∙ places in
    let front : take (start + count) (put_mid start (start + count - start) dest new) ≡ take start dest ++ new =
    take-put_mid start (start + count - start) dest new (start + count) (omega (arith, as_many)) (omega (arith, so_far.len, so_far.within)) in
    record {
      within = omega arith;
      len = same_len_mid start (start + count - start) dest new c.read_block.ensures.len ∙ so_far.len;
      items = ap (map number) front ∙ map-append number (take start dest) new
          ∙ ap (λ xs. xs ++ map number new) so_far.items
          ∙ ap (λ xs. take start items ++ xs) written ∙ sym (take-add start count items);
    }

pub returns : goal.returns
returns g c =
    let len = length c.args.dest.now in
    let count = length-packed_items g.T.Packed.SIZE len c.args.bytes.now in
    let so_far = c.loop-start.invariant in
    let places = take_all c.loop-start.start c.loop-start.dest (omega (arith, so_far.len, so_far.within)) in
    let items = take_all c.loop-start.start (packed_items g.T.Packed.SIZE len c.args.bytes.now) (omega (arith, so_far.within)) in
    sym (ap (map g.T.Packed.number) places) ∙ so_far.items ∙ items

pub slice_bounds-read_block-count : goal.slice_bounds-read_block-count
slice_bounds-read_block-count g c =
    rw c.SIZE-in-loop-start.ensures (omega (arith, mul-le-mul_right g.T.Packed.SIZE c.loop-start.invariant.within, c.requires))

pub overflow_mul-start : goal.overflow_mul-start
overflow_mul-start g c = omega (arith, slice_bounds-read_block-count g c)

pub read_block-requires-clause-block : goal.read_block-requires-clause-block
read_block-requires-clause-block g c =
    omega (arith, length-take (c.loop-start.start + c.min-count.result - c.loop-start.start) (drop c.loop-start.start c.loop-start.dest))
