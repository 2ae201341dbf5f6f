use Rattle.std.proofs.Common.{◌∙◌, arith}
use Rattle.uefi_text.proofs.Caseless.{ends, left_decides}
use Rattle.uefi_text.proofs.case.cmp_ignore_case.Goals as goal

pub loop-i-init : goal.loop-i-init
loop-i-init c =
    let within = c.alike_blocks_end-i.ensures.within in
    left_decides c.alike_blocks_end-i.result c.args.units.now c.args.others.now (omega (arith, within)) (omega (arith, within)) c.alike_blocks_end-i.ensures.alike

pub returns : goal.returns
returns c = c.cmp.ensures ∙ ends c.args.units.now c.args.others.now c.loop-i.i (omega (arith, c.min-i-end.ensures)) ∙ c.loop-i.invariant
