use Rattle.std.proofs.Common.{◌≡◌, ◌+◌, ◌-◌, ◌≤◌, true, drop, length, take}
use Rattle.std.specs.List.{list_all}
use Rattle.uefi_text.specs.Views.{items_of}
use Rattle.uefi_device_nodes.specs.ShownFields.{is_printable}
use Rattle.uefi_device_nodes.proofs.field_texts.shown_texts.put_run.Given as goal

-- the units so far are printable, and the run is these
abbrev pub invariant-loop-len : goal.invariant-loop-len
invariant-loop-len g l = record {
  within : l.place + l.len ≤ length (items_of l.units);
  short : l.len ≤ 64;
  long : length l.run ≡ 64;
  printable : list_all is_printable (take l.len (drop l.place (items_of l.units))) ≡ true;
  same : take l.len l.run ≡ take l.len (drop l.place (items_of l.units));
}

abbrev pub decreases-loop-len : goal.decreases-loop-len
decreases-loop-len g l = 64 - l.len
