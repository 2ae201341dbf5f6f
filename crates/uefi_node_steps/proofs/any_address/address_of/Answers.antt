use Rattle.std.proofs.Common.{◌≡◌, ℕ, List, [], ◌∷◌, refl, ap, sym, subst, ◌∙◌, append-nil, length, true, false, eqb, leb, arith}
use Rattle.std.proofs.NetLemmas.Ipv6.{EndsGroups-nil, read_ipv6_complete, read_ipv6_sound}
use Rattle.std.proofs.lemmas.Bool.{cond-false, cond-true}
use Rattle.std.proofs.lemmas.Bool.Decides.{nat_tests}
use Rattle.std.specs.Net.Addr.{ipv6_octets, ipv6_segments, octets_of}
use Rattle.std.specs.Net.Grammar.{IsColonHex, IsIpv6Text, Parses}
use Rattle.std.specs.Net.Reader.{read_ipv6, whole_value}
use Rattle.std.specs.Option.{option_map}
use Rattle.std.specs.Result.{result_ok}
use Rattle.std.specs.Prelude.{Option, Some, None, Result, Ok, Err}
use Rattle.std.specs.declared.net.ipv6_addr.Ipv6Addr.{Ipv6Addr}
use Rattle.uefi_node_steps.specs.Leaves.{address_octets}
use Rattle.uefi_node_steps.proofs.any_address.address_of.Goals as goal

-- a text that is no address is not read whole
none : (text : List ℕ) (read : Option (List ℕ × List ℕ)) → read_ipv6 text ≡ read → ((a : Ipv6Addr) → IsIpv6Text text a → ⊥)
    → None ≡ option_map octets_of (whole_value read)
none text None e never = refl
none text (Some read) e never = by read.0 read.1 e
  where
    by : (segments rest : List ℕ) → read_ipv6 text ≡ Some (segments, rest) → None ≡ option_map octets_of (whole_value (Some (segments, rest)))
    by segments [] e =
        let (front, split, hex) = read_ipv6_sound text segments [] e in
        absurd (never (record { segments = segments }) (subst (λ (t : List ℕ). IsColonHex t segments) (sym (split ∙ append-nil front)) hex))
    by segments (x ∷ rest) e =
        let more : eqb (length (x ∷ rest)) 0 ≡ false = grind (arith, nat_tests) in
        ap (option_map octets_of) (sym (cond-false (eqb (length (x ∷ rest)) 0) (Some segments) None more))

-- std's parser reads what the definition does
parsed : {E : Type 0} (text : List ℕ) (result : Result Ipv6Addr E) → Parses IsIpv6Text text result
    → option_map ipv6_octets (result_ok result) ≡ option_map octets_of (whole_value (read_ipv6 text))
parsed text (Ok a) spelled =
    sym (ap (λ (t : List ℕ). option_map octets_of (whole_value (read_ipv6 t))) (sym (append-nil text))
    ∙ ap (λ r. option_map octets_of (whole_value r)) (read_ipv6_complete text (ipv6_segments a) [] spelled EndsGroups-nil))
parsed text (Err error) never = none text (read_ipv6 text) refl never

pub returns : goal.returns
unfolding address_octets
returns c =
    let text : List ℕ = c.args.letters.now in
    let short : leb (length text) 45 ≡ true = grind (arith, nat_tests) in
    ap (option_map ipv6_octets) c.ok.ensures.value ∙ parsed text c.parse_ascii.result c.parse_ascii.ensures
    ∙ sym (cond-true (leb (length text) 45) _ _ short)
