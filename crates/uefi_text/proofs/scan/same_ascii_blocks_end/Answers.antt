-- One block more in which both are the same ASCII.
use Rattle.std.proofs.Common.{All, subst, ◌≡◌, ◌∙◌, ◌+◌, ◌-◌, sym, take, drop, IsTrue, arith}
use Rattle.std.proofs.Math.Seq.{take-add}
use Rattle.std.proofs.lemmas.List.Elements.{All-append}
use Rattle.std.proofs.lemmas.Grind.{common_steps}
use Rattle.uefi_text.specs.Scans.{IsAsciiTextByte}
use Rattle.uefi_text.proofs.scan.same_ascii_blocks_end.Goals as goal

pub loop-end-preserved : goal.loop-end-preserved
loop-end-preserved c =
    let us = c.args.units.now in
    let bs = c.args.bytes.now in
    let end = c.loop-end.end in
    let so_far = c.loop-end.invariant in
    let len : end + c.args.block - end ≡ c.args.block = omega arith in
    let yes : IsTrue c.are_same_ascii.result = grind (arith, common_steps) in
    let block = c.are_same_ascii.ensures yes in
    let same : take c.args.block (drop end us) ≡ take c.args.block (drop end bs) = rw len at block.0 in
    let ascii : All IsAsciiTextByte (take c.args.block (drop end bs)) = rw len at block.1 in
    record {
      in_units = omega arith;
      in_bytes = omega arith;
      same = take-add end c.args.block us ∙ rw (so_far.same, same) (sym (take-add end c.args.block bs));
      ascii = subst (All IsAsciiTextByte) (sym (take-add end c.args.block bs)) (All-append IsAsciiTextByte (take end bs) (take c.args.block (drop end bs)) so_far.ascii ascii);
    }
