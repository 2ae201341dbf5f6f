-- The laws of addresses of IP version 6.
use Rattle.std.proofs.Common.{◌≡◌, ℕ, zero, suc, ◌-◌, ◌*◌, ◌^◌, ◌<◌, ◌≤◌, refl, Bool, true, false, cond, eqb, leb, List, [], ◌∷◌, ◌++◌, codes, length, replicate, sym, ap, subst, ◌∙◌, arith, inl, inr, lit≤, length-append}
use Rattle.std.specs.Prelude.{Option, Some, None, Ok, Err}
use Rattle.std.specs.Net.Addr.{octets_of, segments_of}
use Rattle.std.specs.Net.Grammar.{IsColonHex, IsDotted, IsGroup, IsGroupsAfter}
use Rattle.std.specs.Net.Reader.{read_ipv4, read_ipv6, read_number, read_octet, read_segment, read_segments, whole_value}
use Rattle.std.specs.Option.{option_map}
use Rattle.std.proofs.Math.Nat.{pow-le-pow_right}
use Rattle.std.proofs.NetLemmas.Ipv6.{read_ipv6_sound}
use Rattle.std.proofs.NetLemmas.Options.{and_then_some, cond_some, map_some}
use Rattle.std.proofs.lemmas.Int.Digits.{digits_value-lt}
use Rattle.std.proofs.lemmas.List.{length-replicate}
use Rattle.uefi_node_steps.specs.Leaves.{Each, IsBytes, Leaf, Read, address_octets, address_run, after_first, any_address, bare_address, before_bracket, ends_address, first_of, groups, if_closed, ipv6, letters_read, or_else, or_read, past_blanks}
use Rattle.uefi_node_steps.specs.declared.steps.Stop.{Stop}
use Rattle.uefi_node_steps.proofs.Addresses.{groups_keep}
use Rattle.uefi_node_steps.proofs.Combinations.{Goes, Keeps, OptionGoes, if_case, option_longer}
use Rattle.uefi_node_steps.proofs.DataLaws.{are_small, first_shorter}
use Rattle.uefi_node_steps.proofs.LeafLaws.{blanks_shorter, letters_go}

-- what is read in one way, or else in another
module _ {V : Type 0} (leaf : Leaf V) (other : List ℕ → Option (V × List ℕ)) (Fits : V → Type 0) (ends : List ℕ → Bool) (keeps : Keeps leaf Fits ends)
    (goes : (text : List ℕ) → OptionGoes Fits text (other text)) where
  or_goes : (text : List ℕ) (r : Read V) (o : Option (V × List ℕ)) → Goes Fits text r → OptionGoes Fits text o → Goes Fits text (or_read r o)
  or_goes text (Ok read) o g h = g
  or_goes text (Err stop) None g h = g
  or_goes text (Err stop) (Some read) g h = h

  or_else_keeps : Keeps (or_else leaf other) Fits ends
  or_else_keeps = record {
    again = λ v rest f e. ap (λ r. or_read r (other (leaf.text v ++ rest))) (keeps.again v rest f e);
    goes = λ text. or_goes text (leaf.read text) (other text) (keeps.goes text) (goes text);
  }

-- the segments of an address have 16 bits each
abbrev Segments : List ℕ → Type 0
Segments segments = Each (λ s. s < 65536) segments

both : (xs ys : List ℕ) → Segments xs → Segments ys → Segments (xs ++ ys)
both [] ys f g = g
both (x ∷ xs) ys f g = (f.0, both xs ys f.1 g)

zeros : (n : ℕ) → Segments (replicate n 0)
zeros zero = tt
zeros (suc n) = (omega arith, zeros n)

group_small : (text : List ℕ) (s : ℕ) → IsGroup text s → s < 65536
group_small text s h =
    let below = digits_value-lt 16 text h.0.0.1 in
    let most : 16 ^ length text ≤ 16 ^ 4 = pow-le-pow_right (lit≤ tt) h.1 in
    omega (arith, h.0.1)

dotted : (text octets : List ℕ) → IsDotted text octets → Segments (segments_of octets)
dotted text octets h = subst (λ (o : List ℕ). Segments (segments_of o)) (sym h.value) (omega (arith, h.fit.0, h.fit.1), (omega (arith, h.fit.2, h.fit.3), tt))

in_groups : (ipv4 : Bool) (lead text segments : List ℕ) → IsGroupsAfter ipv4 lead text segments → Segments segments
in_groups ipv4 lead text [] h = tt
in_groups ipv4 lead text (s ∷ segments) (inl h) = (group_small h.0 s h.3, in_groups ipv4 (codes ":") h.1 segments h.4)
in_groups ipv4 lead text (s ∷ segments) (inr h) = subst Segments (sym h.5) (dotted h.0 h.1 h.4)

eight : (text segments : List ℕ) → IsColonHex text segments → (length segments ≡ 8) × Segments segments
eight text segments (inl h) = (h.1, in_groups true [] text segments h.0)
eight text segments (inr h) =
    let count = 8 - length h.head - length h.tail in
    let gap : List ℕ = replicate count 0 in
    subst (λ (s : List ℕ). (length s ≡ 8) × Segments s) (sym h.value) (
      omega (arith, h.room, length-append (h.head ++ gap) h.tail, length-append h.head gap, length-replicate {A = ℕ} count 0),
      both (h.head ++ gap) h.tail (both h.head gap (in_groups false [] h.head_text h.head h.head_groups) (zeros count)) (in_groups true [] h.tail_text h.tail h.tail_groups),
    )

octets : (segments : List ℕ) → Segments segments → (length (octets_of segments) ≡ 2 * length segments) × are_small (octets_of segments)
octets [] f = (refl, tt)
octets (s ∷ segments) f = let others = octets segments f.1 in (omega (arith, others.0), (omega (arith, f.0), (omega arith, others.1)))

-- what is read if a test holds
if_some : {A : Type 0} (b : Bool) (read : Option A) (a : A) → cond b read None ≡ Some a → read ≡ Some a
if_some true read a e = e
if_some false read a e = cc

address_bytes : (text bytes : List ℕ) → address_octets text ≡ Some bytes → IsBytes 16 bytes
unfolding address_octets
address_bytes text bytes e =
    let read = if_some (leb (length text) 45) (option_map octets_of (whole_value (read_ipv6 text))) bytes e in
    map_some octets_of (whole_value (read_ipv6 text)) bytes read λ segments found same.
    and_then_some _ (read_ipv6 text) segments found λ read is kept.
    let value = (cond_some (eqb (length read.1) 0) read.0 segments kept).1 in
    let (front, split, hex) = read_ipv6_sound text read.0 read.1 is in
    let all = eight front read.0 hex in
    let small = octets read.0 all.1 in
    subst (IsBytes 16) (ap octets_of value ∙ same) (omega (arith, small.0, all.0), small.1)

run_shorter : (text : List ℕ) → length (address_run text).1 ≤ length text
run_shorter [] = omega arith
run_shorter (c ∷ cs) = if_case (λ (x : List ℕ × List ℕ). length x.1 ≤ suc (length cs)) (ends_address c) _ _ (λ e. omega arith) (λ e. omega (arith, run_shorter cs))

bare_goes : (text : List ℕ) → OptionGoes (IsBytes 16) text (bare_address text)
bare_goes text = by (address_octets (address_run text).0) refl
  where
    by : (o : Option (List ℕ)) → address_octets (address_run text).0 ≡ o → OptionGoes (IsBytes 16) text (option_map (λ (octets : List ℕ). (octets, (address_run text).1)) o)
    by None e = tt
    by (Some bytes) e = (address_bytes (address_run text).0 bytes e, run_shorter text)

bracket_goes : (text : List ℕ) (o : Option (List ℕ × List ℕ)) → OptionGoes (IsBytes 16) text o → OptionGoes (IsBytes 16) text (before_bracket o)
bracket_goes text None g = tt
bracket_goes text (Some address) g = by (letters_read (codes "]") address.1) (letters_go (codes "]") address.1)
  where
    by : (r : Read (List ℕ)) → Goes (λ v. v ≡ []) address.1 r → OptionGoes (IsBytes 16) text (if_closed address.0 r)
    by (Err stop) h = tt
    by (Ok none) h = (g.0, omega (arith, g.1, h.1))

any_goes : (text : List ℕ) → OptionGoes (IsBytes 16) text (any_address text)
any_goes text =
    let inner : List ℕ = past_blanks text in
    let opened : List ℕ = after_first inner in
    if_case (OptionGoes (IsBytes 16) text) (eqb (first_of inner) 91) _ _
    (λ e. option_longer (IsBytes 16) text opened _ (omega (arith, first_shorter inner, blanks_shorter text)) (bracket_goes opened (bare_address opened) (bare_goes opened)))
    (λ e. option_longer (IsBytes 16) text inner _ (blanks_shorter text) (bare_goes inner))

-- no address begins with the end of a call
no_address : address_octets [] ≡ None
unfolding address_octets read_ipv6 read_segments read_ipv4 read_octet read_number read_segment
no_address = refl

none_at_end : (rest : List ℕ) → any_address (41 ∷ rest) ≡ None
none_at_end rest = ap (option_map (λ (octets : List ℕ). (octets, 41 ∷ rest))) no_address

pub stops_at_end : (rest : List ℕ) → (stop : Stop) × (ipv6.read (41 ∷ rest) ≡ Err stop)
stops_at_end [] = (_, ap (or_read (groups.read (41 ∷ []))) (none_at_end []))
stops_at_end (c ∷ rest) = (_, ap (or_read (groups.read (41 ∷ c ∷ rest))) (none_at_end (c ∷ rest)))

pub ipv6_keeps : Keeps ipv6 (IsBytes 16) (λ rest. true)
ipv6_keeps = or_else_keeps groups any_address (IsBytes 16) (λ rest. true) groups_keep any_goes
