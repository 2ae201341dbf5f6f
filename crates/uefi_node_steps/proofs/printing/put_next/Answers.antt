use Rattle.std.proofs.Common.{◌≡◌, ◌^◌, ℕ, length, ap, arith}
use Rattle.uefi_node_steps.proofs.printing.put_next.Goals as goal

pub overflow_add-number_of : goal.overflow_add-number_of
overflow_add-number_of g c =
    let one : 256 ^ length c.args.bytes.now ≡ 256 = ap (λ (n : ℕ). 256 ^ n) c.requires in
    omega (arith, one, c.number_of.ensures.small)
