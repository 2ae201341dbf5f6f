use Rattle.std.proofs.Common.{◌≡◌, ℕ, ◌<◌, List, ap, false, leb, length, sym, take, ◌∙◌, arith}
use Rattle.std.proofs.lemmas.Bool.{cond-false}
use Rattle.std.proofs.lemmas.Bool.Decides.{nat_tests}
use Rattle.std.specs.Net.Addr.{ipv6_octets}
use Rattle.std.specs.Option.{option_map}
use Rattle.std.specs.Prelude.{Option, Some, None}
use Rattle.uefi_node_steps.specs.Leaves.{address_octets, address_run}
use Rattle.uefi_node_steps.proofs.any_address.bare_address.Goals as goal

-- letters that are too many for an address
too_long : (letters : List ℕ) → 45 < length letters → address_octets letters ≡ None
unfolding address_octets
too_long letters l = let long : leb (length letters) 45 ≡ false = grind (arith, nat_tests) in cond-false (leb (length letters) 45) _ _ long

-- octets, and the rest of the text
abbrev beside : List ℕ → Option (List ℕ) → Option (List ℕ × List ℕ)
beside rest o = option_map (λ (octets : List ℕ). (octets, rest)) o

pub returns-in_err-len : goal.returns-in_err-len
returns-in_err-len g c =
    let run : List ℕ × List ℕ = address_run (g.T.Text.codes c.args.text) in
    let long : 45 < length run.0 = omega (arith, c.in_err-len.ensures) in
    rw c.from_residual.ensures (ap (beside run.1) (sym (too_long run.0 long)))

pub returns-in_err-address : goal.returns-in_err-address
returns-in_err-address g c =
    let run : List ℕ × List ℕ = address_run (g.T.Text.codes c.args.text) in
    let found : List ℕ = take c.in_ok-len.len c.copy_address.new.found in
    let none : None ≡ address_octets found = rw c.in_err-address.was at c.address_of.ensures in
    rw c.from_residual-in_err-address.ensures (ap (beside run.1) (none ∙ ap address_octets c.in_ok-len.ensures.1))

pub returns : goal.returns
returns g c =
    let found : List ℕ = take c.in_ok-len.len c.copy_address.new.found in
    let some : Some (ipv6_octets c.in_ok-address.address) ≡ address_octets found = rw c.in_ok-address.was at c.address_of.ensures in
    λ i. beside (c.in_ok-len.ensures.2 i) ((some ∙ ap address_octets c.in_ok-len.ensures.1) i)
