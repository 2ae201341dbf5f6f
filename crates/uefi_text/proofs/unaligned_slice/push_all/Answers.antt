use Rattle.std.proofs.Common.{◌∙◌, ◌++◌, ap, append_assoc, arith}
use Rattle.std.proofs.lemmas.List.{take_all, take_more}
use Rattle.uefi_text.proofs.unaligned_slice.push_all.Goals as goal

pub loop-place-preserved : goal.loop-place-preserved
loop-place-preserved g c =
    let so_far = c.loop-place.invariant in
    let more = take_more c.args.added.now c.loop-place.place c.index-added-place.result c.loop-place-test.true in
    record {
      items = rw (c.push_reserved.ensures.items, so_far.items, append_assoc, more, ← c.index-added-place.is);
      len = omega arith;
      capacity = c.push_reserved.ensures.capacity ∙ so_far.capacity;
    }

pub returns-clause-items : goal.returns-clause-items
returns-clause-items g c =
    c.loop-place.invariant.items ∙ ap (λ xs. c.args.items.now.items ++ xs) (take_all c.loop-place.place c.args.added.now (omega arith))
