use Rattle.std.proofs.Common.{◌≡◌, ◌≤◌, drop, length, map, take}
use Rattle.std.specs.List.{list_any}
use Rattle.uefi_fat.specs.Oem.{fat_byte, is_unfit, kept_units}
use Rattle.uefi_fat.proofs.oem.units_to_fat.Given as goal

-- the buffer begins with the bytes of the units so far, and the others are still to come
abbrev pub invariant-loop-unit : goal.invariant-loop-unit
invariant-loop-unit l = record {
  left : drop l.len (kept_units l.units) ≡ kept_units (drop l.unit-index l.units);
  within : l.len ≤ length (kept_units l.units);
  room : l.len ≤ length l.buffer;
  written : take l.len l.buffer ≡ map fat_byte (take l.len (kept_units l.units));
  others : drop l.len l.buffer ≡ drop l.len l.initial.buffer;
  replaced : l.is_replaced ≡ list_any is_unfit (take l.len (kept_units l.units));
}
