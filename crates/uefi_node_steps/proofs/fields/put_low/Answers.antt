use Rattle.std.proofs.Common.{◌≡◌, ◌+◌, ◌-◌, ◌/◌, ◌%◌, ◌∷◌, [], ◌++◌, ℕ, List, suc, take, length, sym, ap, ◌∙◌, append_assoc, arith}
use Rattle.std.proofs.lemmas.List.{take_more_set}
use Rattle.uefi_node_steps.specs.Leaves.{low_bytes}
use Rattle.uefi_node_steps.proofs.fields.put_low.Goals as goal

pub loop-place-preserved : goal.loop-place-preserved
loop-place-preserved c =
    let place : ℕ = c.loop-place.place in
    let rest : ℕ = c.loop-place.rest in
    let bytes : List ℕ = c.loop-place.found in
    let n : ℕ = length c.args.found.now in
    let left : n - place ≡ suc (n - (place + 1)) = omega arith in
    ap (λ (l : List ℕ). l ++ low_bytes (n - (place + 1)) (rest / 256)) (take_more_set bytes place (rest % 256) (omega arith))
    ∙ append_assoc (take place bytes) (rest % 256 ∷ []) (low_bytes (n - (place + 1)) (rest / 256))
    ∙ ap (λ (k : ℕ). take place bytes ++ low_bytes k rest) (sym left) ∙ c.loop-place.invariant
