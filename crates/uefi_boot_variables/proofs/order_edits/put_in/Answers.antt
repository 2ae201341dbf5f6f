use Rattle.std.proofs.Common.{arith}
use Rattle.std.proofs.lemmas.Grind.{common_steps}
use Rattle.std.proofs.lemmas.List.{take_rest}
use Rattle.uefi_boot_variables.proofs.Edits.{rotated}
use Rattle.uefi_boot_variables.proofs.order_edits.put_in.Goals as goal

pub returns : goal.returns
returns c =
    rotated c.args.numbers.now _ c.rotate_right.new.self _ c.args.place c.args.number c.requires (take_rest c.args.numbers.now c.args.place)
    (grind (arith, common_steps)) c.rotate_right.ensures.after
