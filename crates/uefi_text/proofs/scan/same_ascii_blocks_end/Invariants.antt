use Rattle.std.proofs.Common.{All, ◌≡◌, ◌≤◌, ◌-◌, length, take}
use Rattle.uefi_text.specs.Scans.{IsAsciiTextByte}
use Rattle.uefi_text.proofs.scan.same_ascii_blocks_end.Given as goal

abbrev pub decreases-loop-end : goal.decreases-loop-end
decreases-loop-end l = length l.units - l.end

-- the prefixes so far are the same, and ASCII
abbrev pub invariant-loop-end : goal.invariant-loop-end
invariant-loop-end l = record {
  in_units : l.end ≤ length l.units;
  in_bytes : l.end ≤ length l.bytes;
  same : take l.end l.units ≡ take l.end l.bytes;
  ascii : All IsAsciiTextByte (take l.end l.bytes);
}
