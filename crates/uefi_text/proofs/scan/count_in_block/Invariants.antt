use Rattle.std.proofs.Common.{◌≡◌, count_by, take}
use Rattle.uefi_text.proofs.scan.count_in_block.Given as goal

-- those so far are counted
abbrev pub invariant-loop-element : goal.invariant-loop-element
invariant-loop-element g l = l.count ≡ count_by g.C.Class.holds (take l.element-index l.block)
