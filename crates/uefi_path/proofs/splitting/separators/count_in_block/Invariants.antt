use Rattle.std.proofs.Common.{◌≡◌, count_by, take}
use Rattle.std.specs.List.{list_any}
use Rattle.uefi_path.specs.Separators.{becomes_separator, is_slash}
use Rattle.uefi_path.proofs.splitting.separators.count_in_block.Given as goal

-- those of the units so far
abbrev pub invariant-loop-unit : goal.invariant-loop-unit
invariant-loop-unit l = record {
  counted : l.count ≡ count_by becomes_separator (take l.unit-index l.units);
  found : l.has_slash ≡ list_any is_slash (take l.unit-index l.units);
}
