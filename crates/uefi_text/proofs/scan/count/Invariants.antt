use Rattle.std.proofs.Common.{◌≡◌, ◌+◌, count_by}
use Rattle.std.specs.Slice.Iter.{chunks_rest, chunks_size}
use Rattle.uefi_text.proofs.scan.count.Given as goal

-- with those that are left all are counted
abbrev pub invariant-loop-block : goal.invariant-loop-block
invariant-loop-block g l = record {
  size : chunks_size l.block-iterator ≡ 128;
  counted : l.count + count_by g.C.Class.holds (chunks_rest l.block-iterator) ≡ count_by g.C.Class.holds l.elements;
}
