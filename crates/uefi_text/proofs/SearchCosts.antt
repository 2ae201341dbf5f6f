-- Each step takes two from what is left of the product.
use Rattle.std.proofs.Common.{◌≡◌, ◌+◌, ◌-◌, ◌*◌, ◌<◌, ◌≤◌, ℕ, Some, None, Option, subst, arith}
use Rattle.std.proofs.Math.Nat.{mul-le-mul_right}
use Rattle.uefi_text.specs.declared.patterns.Star.{Star}
use Rattle.uefi_text.proofs.GreedySearch.{StarWithin, tried}

-- what is left of the search: each place where the last `*` was tried has each place of the pattern once
abbrev pub left : ℕ → ℕ → ℕ → ℕ → ℕ
left text pattern tried at = (text - tried) * (pattern + 1) + (pattern - at)

tried_within : (star : Option Star) (pattern place : ℕ) → StarWithin star pattern place → tried star ≤ place
tried_within None pattern place within = omega arith
tried_within (Some star) pattern place within = within.1

later_is_less : (text t place w : ℕ) → t ≤ place → (text - place) * w ≤ (text - t) * w
later_is_less text t place w h = let k : text - place ≤ text - t = omega arith in mul-le-mul_right w k

-- a `*` is passed
pub star_cost : (text pattern place at bound reads : ℕ) (star : Option Star) → StarWithin star pattern place → at < pattern
    → reads + left text pattern (tried star) at ≤ bound → reads + 1 + left text pattern place (at + 1) ≤ bound
star_cost text pattern place at bound reads star within inside before =
    let less : (text - place) * (pattern + 1) ≤ (text - tried star) * (pattern + 1) =
    later_is_less text (tried star) place (pattern + 1) (tried_within star pattern place within) in
    omega arith

-- a part of some units is passed, after no more reads
pub unit_cost : (rest pattern at n reads next bound : ℕ) → n ≤ pattern - at → next ≤ reads + n
    → reads + (rest + (pattern - at)) ≤ bound → next + (rest + (pattern - (at + n))) ≤ bound
unit_cost rest pattern at n reads next bound some few before = omega arith

-- with one place less for the last `*`
one_less : (text pattern t : ℕ) → t < text → (text - t) * (pattern + 1) ≡ (text - (t + 1)) * (pattern + 1) + (pattern + 1)
one_less text pattern t inside = let e : text - t ≡ (text - (t + 1)) + 1 = omega arith in rw e (omega arith)

-- the search goes back, after no more reads than the pattern has units left, and one
pub back_cost : (text pattern place at reads more bound : ℕ) (star : Option Star) (last : Star) → star ≡ Some last → last.tried ≤ place → place < text
    → at ≤ pattern → more + at ≤ pattern + 1 → reads + left text pattern (tried star) at ≤ bound
    → reads + more + left text pattern (last.tried + 1) last.after ≤ bound
back_cost text pattern place at reads more bound star last is within inside in_pattern few before =
    let from : reads + left text pattern last.tried at ≤ bound = subst (λ s. reads + left text pattern (tried s) at ≤ bound) is before in
    let less = one_less text pattern last.tried (omega arith) in
    let rest : ℕ = (text - (last.tried + 1)) * (pattern + 1) in
    omega arith
