use Rattle.std.proofs.Common.{◌∙◌, ◌≡◌, ◌+◌, drop, arith, rules, below_more}
use Rattle.uefi_device_nodes.proofs.Places.{first_place, no_place}
use Rattle.uefi_node_reader.specs.ShortAddresses.{ends_address}
use Rattle.uefi_node_reader.proofs.NextBytes.{byte_at}
use Rattle.uefi_node_reader.proofs.lenient.short_addresses.address_len.Goals as goal

pub returns-then-ends_address-clause-place : goal.returns-then-ends_address-clause-place
returns-then-ends_address-clause-place g c =
    let at = byte_at (g.T.Text.bytes c.args.text) _ _ c.loop-place.place _ c.loop-place.invariant.0 c.in-Some.ensures in
    first_place ends_address (g.T.Text.bytes c.args.text) c.loop-place.place c.loop-place.invariant.1 at.0 (cc (at.1))

pub loop-place-preserved : goal.loop-place-preserved
loop-place-preserved g c =
    let at = byte_at (g.T.Text.bytes c.args.text) _ _ c.loop-place.place _ c.loop-place.invariant.0 c.in-Some.ensures in
    let rest : g.T.Text.bytes c.in-Some.after ≡ drop (c.loop-place.place + 1) (g.T.Text.bytes c.args.text) = at.2 in
    (search rules, below_more _ _ c.loop-place.invariant.1 (cc (at.1)))

pub returns-clause-place : goal.returns-clause-place
returns-clause-place g c =
    c.len.ensures ∙ no_place ends_address (g.T.Text.bytes c.args.text) (λ k h. c.loop-place.invariant.1 k (omega arith))
