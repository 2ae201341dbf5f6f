use Rattle.std.proofs.Common.{◌≡◌, ◌||◌, ◌+◌, count_by}
use Rattle.std.specs.List.{list_any}
use Rattle.std.specs.Slice.Iter.{chunks_rest, chunks_size}
use Rattle.uefi_path.specs.Separators.{becomes_separator, is_slash}
use Rattle.uefi_path.proofs.splitting.separators.count_separators.Given as goal

-- those of the blocks so far, and of what is left
abbrev pub invariant-loop-block : goal.invariant-loop-block
invariant-loop-block l = record {
  size : chunks_size l.block-iterator ≡ 4096;
  counted : l.count + count_by becomes_separator (chunks_rest l.block-iterator) ≡ count_by becomes_separator l.units;
  found : (l.has_slash || list_any is_slash (chunks_rest l.block-iterator)) ≡ list_any is_slash l.units;
}
