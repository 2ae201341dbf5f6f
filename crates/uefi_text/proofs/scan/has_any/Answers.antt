-- A block with such an element decides; else what is left after the blocks does.
use Rattle.std.proofs.Common.{◌-◌, ◌∙◌, ap, arith, drop, length}
use Rattle.std.specs.List.{list_any}
use Rattle.std.specs.Option.{is_some}
use Rattle.std.proofs.lemmas.Grind.{common_steps}
use Rattle.std.proofs.lemmas.List.{length-drop, take_all}
use Rattle.uefi_text.proofs.Scanning.{any-in_block, any-in_rest, is_some-position}
use Rattle.uefi_text.proofs.scan.has_any.Goals as goal

pub returns-then-elements-start-ge-SMALL_BLOCK : goal.returns-then-elements-start-ge-SMALL_BLOCK
returns-then-elements-start-ge-SMALL_BLOCK g c =
    let start = c.clear_blocks_end-start in
    let found = any-in_block g.C.Class.holds c.args.elements.now start.result 8 start.ensures.clear (start.ensures.found (omega arith)) in
    grind (arith, common_steps)

pub returns-else-elements-start-ge-SMALL_BLOCK : goal.returns-else-elements-start-ge-SMALL_BLOCK
returns-else-elements-start-ge-SMALL_BLOCK g c =
    let elements = c.args.elements.now in
    let start = c.clear_blocks_end-start in
    let all = take_all (length elements - start.result) (drop start.result elements) (omega (arith, length-drop start.result elements)) in
    c.is_some.ensures ∙ ap is_some c.find_one_by_one.ensures ∙ is_some-position g.C.Class.holds _ ∙ ap (list_any g.C.Class.holds) all
    ∙ any-in_rest g.C.Class.holds elements start.result start.ensures.clear
