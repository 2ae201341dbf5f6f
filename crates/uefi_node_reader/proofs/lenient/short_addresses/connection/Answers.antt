use Rattle.std.proofs.Common.{◌≡◌, ℕ, ◌+◌, ◌/◌, ◌%◌, ◌<◌, ◌≤◌, length, List, [], ◌∷◌, ◌++◌, ap, sym, ◌∙◌, refl, replicate, arith}
use Rattle.std.specs.Net.Addr.{ipv6_octets}
use Rattle.std.specs.Prelude.{Option}
use Rattle.std.specs.declared.net.ipv6_addr.Ipv6Addr.{Ipv6Addr}
use Rattle.uefi_node_reader.specs.CountedBytes.{pushed_bytes}
use Rattle.uefi_node_reader.specs.ShortAddresses.{connection, gateway_part}
use Rattle.uefi_node_reader.proofs.CountedBytes.{four_put}
use Rattle.uefi_node_reader.proofs.lenient.short_addresses.connection.Goals as goal

-- the data with the bytes of a protocol
with_protocol : (remote local last : List ℕ) (p origin : ℕ) → p < 65536
    → local ++ (remote ++ ((0 ∷ 0 ∷ 0 ∷ 0 ∷ p % 256 ∷ p / 256 ∷ origin ∷ []) ++ last)) ≡ connection remote p origin (local, last)
with_protocol remote local last p origin l =
    let high : p / 256 ≡ p / 256 % 256 = omega (arith, l) in
    ap (λ (h : ℕ). local ++ (remote ++ (0 ∷ 0 ∷ 0 ∷ 0 ∷ p % 256 ∷ h ∷ origin ∷ last))) high

pub returns-in-Some : goal.returns-in-Some
returns-in-Some c =
    let p : ℕ = c.args.protocol in
    let local : List ℕ = c.octets.result in
    let remote : List ℕ = c.octets-2.result in
    let last : List ℕ = c.in-Some.prefix_length ∷ c.octets-in-Some.result in
    let m : List ℕ = 0 ∷ 0 ∷ 0 ∷ 0 ∷ p % 256 ∷ p / 256 ∷ c.args.origin ∷ [] in
    let size : length local + (length remote + (7 + length last)) ≤ 56 = omega arith in
    let put = c.push_all-len-in-Some.ensures ∙ ap (λ (s : List ℕ × ℕ). pushed_bytes s c.octets-in-Some.result) c.push-len.ensures in
    let all = four_put (replicate 56 0) local remote m last _ _ _ (c.push_all-len-in-Some.new.places, c.push_all-len-in-Some.result)
    c.push_all-len.ensures c.push_all-len-2.ensures c.push_all-len-3.ensures put size refl in
    record {
      «data» = all.1 ∙ with_protocol remote local last p c.args.origin c.ranges.protocol.fits
          ∙ (λ i. connection (c.octets-2.ensures i) p c.args.origin (c.octets.ensures i, c.in-Some.prefix_length ∷ c.octets-in-Some.ensures i))
          ∙ ap (λ (o : Option (ℕ × Ipv6Addr)). connection (ipv6_octets c.args.remote) p c.args.origin (ipv6_octets c.args.local.0, gateway_part o)) (sym c.in-Some.is);
      few = all.0;
    }

pub returns-in-None : goal.returns-in-None
returns-in-None c =
    let p : ℕ = c.args.protocol in
    let local : List ℕ = c.octets.result in
    let remote : List ℕ = c.octets-2.result in
    let m : List ℕ = 0 ∷ 0 ∷ 0 ∷ 0 ∷ p % 256 ∷ p / 256 ∷ c.args.origin ∷ [] in
    let size : length local + (length remote + 7) ≤ 56 = omega arith in
    let all = four_put (replicate 56 0) local remote m [] _ _ _ (c.push_all-len-3.new.places, c.push_all-len-3.result)
    c.push_all-len.ensures c.push_all-len-2.ensures c.push_all-len-3.ensures refl size refl in
    record {
      «data» = all.1 ∙ with_protocol remote local [] p c.args.origin c.ranges.protocol.fits
          ∙ (λ i. connection (c.octets-2.ensures i) p c.args.origin (c.octets.ensures i, []))
          ∙ ap (λ (o : Option (ℕ × Ipv6Addr)). connection (ipv6_octets c.args.remote) p c.args.origin (ipv6_octets c.args.local.0, gateway_part o)) (sym c.in-None.is);
      few = all.0;
    }
