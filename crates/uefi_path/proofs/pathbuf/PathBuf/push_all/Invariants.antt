use Rattle.std.proofs.Common.{◌≡◌, ◌+◌, ◌-◌, ◌≤◌, ◌++◌, length, take}
use Rattle.uefi_path.specs.Separators.{with_separators}
use Rattle.uefi_path.specs.Views.{counted_text, reads_of}
use Rattle.uefi_path.proofs.pathbuf.PathBuf.push_all.Given as goal

-- the units before `i` are read, each once, and are added
abbrev pub invariant-loop-i : goal.invariant-loop-i
invariant-loop-i g l = record {
  within : l.i ≤ length (counted_text l.fn.units);
  made : l.self ≡ l.initial.self ++ with_separators (take l.i (counted_text l.fn.units));
  text : counted_text l.units ≡ counted_text l.fn.units;
  count : reads_of l.units ≡ reads_of l.fn.units + l.i;
}

abbrev pub decreases-loop-i : goal.decreases-loop-i
decreases-loop-i g l = length (counted_text l.fn.units) - l.i
