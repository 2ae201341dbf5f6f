use Rattle.std.proofs.Common.{◌≡◌, ◌+◌, ◌-◌, ◌∙◌, ap, arith, drop, sym, take}
use Rattle.uefi_text.specs.Case.{uppers}
use Rattle.uefi_text.proofs.Caseless.{alike_more}
use Rattle.uefi_text.proofs.case.alike_blocks_end.Goals as goal

pub loop-end-preserved : goal.loop-end-preserved
loop-end-preserved c =
    let end = c.loop-end.end in
    let len : end + 8 - end ≡ 8 = omega arith in
    let alike = c.are_blocks_alike.ensures.0 c.if-are_blocks_alike.true in
    let block : uppers (take 8 (drop end c.args.units.now)) ≡ uppers (take 8 (drop end c.args.others.now)) =
    ap (λ n. uppers (take n (drop end c.args.units.now))) (sym len) ∙ alike ∙ ap (λ n. uppers (take n (drop end c.args.others.now))) len in
    record {
      within = omega (arith, c.loop-end-test.true);
      alike = alike_more c.args.units.now c.args.others.now end 8 c.loop-end.invariant.alike block;
    }
