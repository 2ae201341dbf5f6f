use Rattle.std.proofs.Common.{◌≡◌, ◌≤◌, drop, length, map}
use Rattle.std.specs.Simd.Lanes.{mask_l}
use Rattle.uefi_path.specs.Separators.{is_separator}
use Rattle.uefi_path.proofs.splitting.separators.separator_bits_few.Given as goal

-- the bits of the units from `i` on
abbrev pub invariant-loop-i : goal.invariant-loop-i
invariant-loop-i l = record {
  bits : l.bits ≡ mask_l (map is_separator (drop l.i l.units));
  within : l.i ≤ length l.units;
}

abbrev pub decreases-loop-i : goal.decreases-loop-i
decreases-loop-i l = l.i
