use Rattle.std.proofs.Common.{◌≡◌, take}
use Rattle.std.specs.List.{list_any}
use Rattle.uefi_text.proofs.scan.block_has.Given as goal

-- whether one of those so far is in the class
abbrev pub invariant-loop-element : goal.invariant-loop-element
invariant-loop-element g l = l.found ≡ list_any g.C.Class.holds (take l.element-index l.block)
