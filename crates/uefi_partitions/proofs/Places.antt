-- Where an entry of an array ends.
use Rattle.std.proofs.Common.{◌≡◌, ℕ, zero, suc, ◌+◌, ◌-◌, ◌*◌, ◌≤◌, arith}
use Rattle.std.proofs.Math.Nat.{mul-le-mul_right}

-- an entry of an array ends within it
pub ends_within : (number count size : ℕ) → 1 ≤ number → number ≤ count → (number - 1) * size + size ≤ count * size
ends_within zero count size some within = omega arith
ends_within (suc n) count size some within =
    let whole : suc n * size ≤ count * size = mul-le-mul_right size within in
    let before : suc n - 1 ≡ n = omega arith in
    rw before (grind (arith, whole))
