use Rattle.std.proofs.Common.{arith}
use Rattle.std.proofs.Math.Nat.{pow-le-pow_right}
use Rattle.uefi_node_steps.proofs.printing.number_of.Goals as goal

pub overflow_mul-number : goal.overflow_mul-number
overflow_mul-number c =
    let most = pow-le-pow_right {n = 256} (omega arith) {i = c.loop-place.place} {j = 7} (omega arith) in
    omega (arith, c.loop-place.invariant.1)

pub overflow_add-number : goal.overflow_add-number
overflow_add-number c =
    let most = pow-le-pow_right {n = 256} (omega arith) {i = c.loop-place.place} {j = 7} (omega arith) in
    omega (arith, c.loop-place.invariant.1)
