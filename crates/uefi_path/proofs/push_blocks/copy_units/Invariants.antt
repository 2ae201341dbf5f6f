use Rattle.std.proofs.Common.{◌≡◌, ◌+◌, drop, take}
use Rattle.uefi_path.specs.Separators.{with_separators}
use Rattle.uefi_path.specs.Views.{counted_text, reads_of}
use Rattle.uefi_path.proofs.push_blocks.copy_units.Given as goal

-- the units so far are read, each once, and are written
abbrev pub invariant-loop-i : goal.invariant-loop-i
invariant-loop-i l = record {
  block : take l.i l.block ≡ with_separators (take l.i (drop l.start (counted_text l.fn.units)));
  text : counted_text l.units ≡ counted_text l.fn.units;
  count : reads_of l.units ≡ reads_of l.fn.units + l.i;
}
