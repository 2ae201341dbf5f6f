use Rattle.std.proofs.Common.{◌≡◌, ◌*◌, ◌++◌, take, drop}
use Rattle.uefi_text.specs.UnitBytes.{unit_bytes}
use Rattle.uefi_text.proofs.scan.split.Given as goal

-- the units so far are written, and the other bytes stand unchanged
abbrev pub invariant-loop-i : goal.invariant-loop-i
invariant-loop-i l = l.bytes ≡ unit_bytes (take l.i l.units) ++ drop (2 * l.i) l.initial.bytes
