use Rattle.std.proofs.Common.{arith}
use Rattle.std.proofs.lemmas.Grind.{common_steps}
use Rattle.uefi_text.proofs.Scanning.{position-from_none, position-from_some}
use Rattle.uefi_text.proofs.scan.find_first.Goals as goal

pub returns-in-None : goal.returns-in-None
returns-in-None g c =
    let start = c.clear_blocks_end-start in
    position-from_none g.C.Class.holds c.args.elements.now start.result start.ensures.within start.ensures.clear (grind (arith, common_steps))

pub returns-in-Some : goal.returns-in-Some
returns-in-Some g c =
    let start = c.clear_blocks_end-start in
    position-from_some g.C.Class.holds c.args.elements.now start.result c.in-Some.place start.ensures.within start.ensures.clear (grind (arith, common_steps))
