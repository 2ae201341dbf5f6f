use Rattle.std.proofs.Common.{All, ◌≡◌, IsTrue, take}
use Rattle.uefi_text.specs.Scans.{IsAsciiTextByte}
use Rattle.uefi_text.proofs.scan.are_same_ascii.Given as goal

-- where nothing differs so far, the units so far are the bytes so far, which are ASCII
abbrev pub invariant-loop-i : goal.invariant-loop-i
invariant-loop-i l = record {
  same : IsTrue l.same → take l.i l.units ≡ take l.i l.bytes;
  ascii : IsTrue l.same → All IsAsciiTextByte (take l.i l.bytes);
}
