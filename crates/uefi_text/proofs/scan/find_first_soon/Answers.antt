-- A search goes on after elements that are not in the class.
use Rattle.std.proofs.Common.{◌≡◌, ◌∙◌, ◌≤◌, arith, drop, length, position, sym}
use Rattle.std.proofs.lemmas.Grind.{common_steps}
use Rattle.uefi_text.proofs.Scanning.{clear_front, position-from_none, position-from_some}
use Rattle.uefi_text.proofs.scan.find_first_soon.Goals.{then-few-start-ge-SMALL_BLOCK, else-few-start-ge-SMALL_BLOCK}
use Rattle.uefi_text.proofs.scan.find_first_soon.Goals as goal

pub returns-in-None : goal.returns-in-None
returns-in-None g c =
    let p = g.C.Class.holds in
    let elements = c.args.elements.now in
    let start = c.clear_blocks_end-start in
    let fits : c.min-few.result ≤ length elements = grind (arith, common_steps) in
    let front = clear_front p elements start.result c.min-few.result fits start.ensures.within start.ensures.clear in
    let found : c.if-few-start-ge-SMALL_BLOCK.place ≡ position p (drop start.result elements) =
    elim c.if-few-start-ge-SMALL_BLOCK.branch [
      | then-few-start-ge-SMALL_BLOCK w ↦ grind (arith, common_steps)
      | else-few-start-ge-SMALL_BLOCK w ↦ grind (arith, common_steps)
    ] in
    position-from_none p elements start.result front.0 front.1 (sym c.in-None.is ∙ found)

pub returns-in-Some : goal.returns-in-Some
returns-in-Some g c =
    let p = g.C.Class.holds in
    let elements = c.args.elements.now in
    let start = c.clear_blocks_end-start in
    let fits : c.min-few.result ≤ length elements = grind (arith, common_steps) in
    let front = clear_front p elements start.result c.min-few.result fits start.ensures.within start.ensures.clear in
    let found : c.if-few-start-ge-SMALL_BLOCK.place ≡ position p (drop start.result elements) =
    elim c.if-few-start-ge-SMALL_BLOCK.branch [
      | then-few-start-ge-SMALL_BLOCK w ↦ grind (arith, common_steps)
      | else-few-start-ge-SMALL_BLOCK w ↦ grind (arith, common_steps)
    ] in
    position-from_some p elements start.result c.in-Some.place front.0 front.1 (sym c.in-Some.is ∙ found)
