-- One block more is counted.
use Rattle.std.proofs.Common.{◌≡◌, ◌+◌, ◌++◌, ◌∙◌, Bool, List, ap, arith}
use Rattle.std.specs.List.{count_by}
use Rattle.std.specs.Slice.Iter.{chunks_rest}
use Rattle.std.proofs.lemmas.List.{nil_from_length}
use Rattle.std.proofs.lemmas.List.Sums.{count_by-le-length, sum_by-append}
use Rattle.uefi_text.proofs.scan.count.Goals as goal

next : {X : Type 0} (p : X → Bool) (left block rest : List X) → left ≡ block ++ rest → count_by p left ≡ count_by p block + count_by p rest
next p left block rest split = ap (count_by p) split ∙ sum_by-append _ block rest

pub loop-block-preserved : goal.loop-block-preserved
loop-block-preserved g c =
    let more = next g.C.Class.holds _ c.in-Some.block.now (chunks_rest c.next.new.self) c.in-Some.ensures.steps.1.0 in
    record {
      size = c.next.ensures.steps.0 ∙ c.loop-block.invariant.size;
      counted = omega (arith, c.loop-block.invariant.counted, more, c.count_in_block.ensures, c.from-count.ensures);
    }

pub overflow_add-count : goal.overflow_add-count
overflow_add-count g c =
    let more = next g.C.Class.holds _ c.in-Some.block.now (chunks_rest c.next.new.self) c.in-Some.ensures.steps.1.0 in
    let all = count_by-le-length g.C.Class.holds c.args.elements.now in
    omega (arith, c.loop-block.invariant.counted, more, c.count_in_block.ensures, c.from-count.ensures, all, c.well_formed)

pub returns : goal.returns
returns g c =
    let none = ap (count_by g.C.Class.holds) (nil_from_length _ c.in-None.ensures.steps.1.0) in
    omega (arith, c.loop-block.invariant.counted, none)
