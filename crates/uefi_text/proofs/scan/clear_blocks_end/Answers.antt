use Rattle.std.proofs.Common.{◌≡◌, ◌+◌, ◌-◌, ◌∙◌, ap, arith, drop, sym, take}
use Rattle.std.specs.List.{list_any}
use Rattle.uefi_text.proofs.Scanning.{clear_more}
use Rattle.uefi_text.proofs.scan.clear_blocks_end.Goals as goal

pub loop-end-preserved : goal.loop-end-preserved
loop-end-preserved g c =
    let p = g.C.Class.holds in
    let from = c.loop-end.end in
    let len : from + c.args.block - from ≡ c.args.block = omega arith in
    record {
      within = omega arith;
      clear = clear_more p c.args.elements.now from c.args.block c.loop-end.invariant.clear
          (ap (λ n. list_any p (take n (drop from c.args.elements.now))) (sym len) ∙ sym c.if-not-block_has.ensures);
    }

pub returns-else-not-block_has-clause-found : goal.returns-else-not-block_has-clause-found
returns-else-not-block_has-clause-found g c more =
    let p = g.C.Class.holds in
    let from = c.loop-end.end in
    let len : from + c.args.block - from ≡ c.args.block = omega arith in
    ap (λ n. list_any p (take n (drop from c.args.elements.now))) (sym len) ∙ sym c.block_has.ensures ∙ c.if-not-block_has.false
