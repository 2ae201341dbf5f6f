-- The data that a call of a connection over IP version 6 tells are bytes.
use Rattle.std.proofs.Common.{◌≡◌, ℕ, zero, suc, ◌+◌, ◌-◌, ◌*◌, ◌/◌, ◌%◌, ◌^◌, ◌<◌, ◌≤◌, refl, Bool, true, false, cond, eqb, leb, List, [], ◌∷◌, ◌++◌, codes, length, take, drop, replicate, sym, ap, subst, ◌∙◌, arith, inl, inr, lit≤}
use Rattle.std.specs.Prelude.{All, Option, Some, None}
use Rattle.std.proofs.lemmas.Option.{none-some, same_Some}
use Rattle.std.specs.List.{position_or_len}
use Rattle.std.specs.Net.Addr.{octets_of, segments_of}
use Rattle.std.specs.Option.{option_map}
use Rattle.std.specs.Net.Grammar.{IsColonHex, IsDotted, IsGroup, IsGroupsAfter}
use Rattle.std.specs.Net.Reader.{read_ipv6, whole_value}
use Rattle.std.proofs.Math.Nat.{pow-le-pow_right}
use Rattle.std.proofs.NetLemmas.Ipv6.{read_ipv6_sound}
use Rattle.std.proofs.NetLemmas.Options.{and_then_some, cond_some, map_some, same_parts}
use Rattle.std.proofs.lemmas.Int.Digits.{digits_value-lt}
use Rattle.std.proofs.lemmas.List.Elements.{All-append, All-cons, All-nil, All-replicate}
use Rattle.uefi_node_reader.specs.FieldReading.{◌>>=◌, low_bytes}
use Rattle.uefi_node_reader.specs.LenientFields.{any_number}
use Rattle.uefi_node_reader.specs.ShortAddresses.{address_octets, address_read, at_end, bare_address, call_data, closed_address, closes_call, connection, ends_address, last_fields, last_part, last_read, local_read, no_address, omitted_local, origin_on, origin_read, protocol_read, settings_read}
use Rattle.uefi_node_reader.specs.TableReading.{first_of}
use Rattle.uefi_node_reader.specs.WordReading.{after, or_word}
use Rattle.uefi_node_reader.proofs.LenientNumbers.{number_small}

abbrev AreBytes : List ℕ → Type 0
AreBytes bytes = All (λ (b : ℕ). b < 256) bytes

no_bytes : AreBytes []
no_bytes = All-nil (λ (b : ℕ). b < 256)

then_byte : (b : ℕ) (bytes : List ℕ) → b < 256 → AreBytes bytes → AreBytes (b ∷ bytes)
then_byte b bytes l others = All-cons (λ (b : ℕ). b < 256) b bytes l others

both : (xs ys : List ℕ) → AreBytes xs → AreBytes ys → AreBytes (xs ++ ys)
both xs ys x y = All-append (λ (b : ℕ). b < 256) xs ys x y

zeros : (n : ℕ) → AreBytes (replicate n 0)
zeros n = All-replicate (λ (b : ℕ). b < 256) n 0 (omega arith)

-- a segment of two bytes, and others
then_segment : (s : ℕ) (segments : List ℕ) → s < 65536 → AreBytes (octets_of segments) → AreBytes (octets_of (s ∷ segments))
then_segment s segments l others =
    then_byte (s / 256) (s % 256 ∷ octets_of segments) (omega arith) (then_byte (s % 256) (octets_of segments) (omega arith) others)

zero_segments : (n : ℕ) → AreBytes (octets_of (replicate n 0))
zero_segments zero = no_bytes
zero_segments (suc n) = then_segment 0 (replicate n 0) (omega arith) (zero_segments n)

group_small : (text : List ℕ) (s : ℕ) → IsGroup text s → s < 65536
group_small text s h =
    let below = digits_value-lt 16 text h.0.0.1 in
    let most : 16 ^ length text ≤ 16 ^ 4 = pow-le-pow_right (lit≤ tt) h.1 in
    omega (arith, h.0.1)

dotted_bytes : (text octets : List ℕ) → IsDotted text octets → AreBytes (octets_of (segments_of octets))
dotted_bytes text octets h = subst (λ (o : List ℕ). AreBytes (octets_of (segments_of o))) (sym h.value)
    (then_segment (h.a * 256 + h.b) ((h.c * 256 + h.d) ∷ []) (omega (arith, h.fit.0, h.fit.1))
    (then_segment (h.c * 256 + h.d) [] (omega (arith, h.fit.2, h.fit.3)) no_bytes))

groups_bytes : (ipv4 : Bool) (lead text segments : List ℕ) → IsGroupsAfter ipv4 lead text segments → AreBytes (octets_of segments)
groups_bytes ipv4 lead text [] h = no_bytes
groups_bytes ipv4 lead text (s ∷ segments) (inl h) =
    then_segment s segments (group_small h.0 s h.3) (groups_bytes ipv4 (codes ":") h.1 segments h.4)
groups_bytes ipv4 lead text (s ∷ segments) (inr h) =
    subst (λ (x : List ℕ). AreBytes (octets_of x)) (sym h.5) (dotted_bytes h.0 h.1 h.4)

octets_of-append : (head tail : List ℕ) → octets_of (head ++ tail) ≡ octets_of head ++ octets_of tail
octets_of-append [] tail = refl
octets_of-append (s ∷ head) tail = ap (λ (x : List ℕ). s / 256 ∷ (s % 256 ∷ x)) (octets_of-append head tail)

hex_bytes : (text segments : List ℕ) → IsColonHex text segments → AreBytes (octets_of segments)
hex_bytes text segments (inl h) = groups_bytes true [] text segments h.0
hex_bytes text segments (inr h) =
    let gap : List ℕ = replicate (8 - length h.head - length h.tail) 0 in
    subst AreBytes (sym (ap octets_of h.value ∙ octets_of-append (h.head ++ gap) h.tail ∙ ap (λ (x : List ℕ). x ++ octets_of h.tail) (octets_of-append h.head gap)))
    (both (octets_of h.head ++ octets_of gap) (octets_of h.tail)
    (both (octets_of h.head) (octets_of gap) (groups_bytes false [] h.head_text h.head h.head_groups) (zero_segments (8 - length h.head - length h.tail)))
    (groups_bytes true [] h.tail_text h.tail h.tail_groups))

-- what is read if a test holds
if_some : {A : Type 0} (b : Bool) (read : Option A) (a : A) → cond b read None ≡ Some a → read ≡ Some a
if_some true read a e = e
if_some false read a e = cc

octets_bytes : (text octets : List ℕ) → address_octets text ≡ Some octets → AreBytes octets
unfolding address_octets
octets_bytes text octets e =
    let read = if_some (leb (length text) 45) (option_map octets_of (whole_value (read_ipv6 text))) octets e in
    map_some octets_of (whole_value (read_ipv6 text)) octets read λ segments found same.
    and_then_some _ (read_ipv6 text) segments found λ read is kept.
    let value = (cond_some (eqb (length read.1) 0) read.0 segments kept).1 in
    let (front, split, hex) = read_ipv6_sound text read.0 read.1 is in
    subst AreBytes (ap octets_of value ∙ same) (hex_bytes front read.0 hex)

bare_bytes : (text octets rest : List ℕ) → bare_address text ≡ Some (octets, rest) → AreBytes octets
bare_bytes text octets rest e =
    let n : ℕ = position_or_len ends_address text in
    map_some _ (address_octets (take n text)) (octets, rest) e λ found is same.
    subst AreBytes (ap (λ (x : List ℕ × List ℕ). x.0) same) (octets_bytes (take n text) found is)

closed_bytes : (text octets rest : List ℕ) → closed_address text ≡ Some (octets, rest) → AreBytes octets
closed_bytes text octets rest e =
    and_then_some _ (bare_address text) (octets, rest) e λ read is more.
    and_then_some _ (after (codes "]") read.1) (octets, rest) more λ left closed same.
    subst AreBytes (same_parts read.0 octets left rest same).0 (bare_bytes text read.0 read.1 is)

address_bytes : (text octets rest : List ℕ) → address_read text ≡ Some (octets, rest) → AreBytes octets
address_bytes text octets rest e = by (eqb (first_of text) 91) e
  where
    by : (b : Bool) → cond b (closed_address (drop 1 text)) (bare_address text) ≡ Some (octets, rest) → AreBytes octets
    by true p = closed_bytes (drop 1 text) octets rest p
    by false p = bare_bytes text octets rest p

-- the prefix length and the gateway
last_bytes : (text : List ℕ) (prefix : ℕ) (gateway : List ℕ) → last_fields text ≡ Some (prefix, gateway) → AreBytes (prefix ∷ gateway)
last_bytes text prefix gateway e =
    and_then_some _ (any_number 256 text) (prefix, gateway) e λ number is more.
    and_then_some _ (after (codes ",") number.1 >>= address_read >>= at_end) (prefix, gateway) more λ found ends same.
    and_then_some at_end (after (codes ",") number.1 >>= address_read) found ends λ read got closed.
    and_then_some address_read (after (codes ",") number.1) read got λ rest comma address.
    let parts = same_parts number.0 prefix found gateway same in
    let value = (cond_some (closes_call read.1) read.0 found closed).1 ∙ parts.1 in
    then_byte prefix gateway (subst (λ (n : ℕ). n < 256) parts.0 (number_small 256 text number.0 number.1 (omega arith) is))
    (subst AreBytes value (address_bytes rest read.0 read.1 address))

-- the end of the data
end_bytes : (text last : List ℕ) → last_read text ≡ Some last → AreBytes last
end_bytes text last e = by (closes_call text) e
  where
    by : (b : Bool) → cond b (Some []) (after (codes ",") text >>= last_fields >>= λ gateway. Some (last_part (Some gateway))) ≡ Some last → AreBytes last
    by true p = subst AreBytes (same_Some _ _ p) no_bytes
    by false p =
        and_then_some _ (after (codes ",") text >>= last_fields) last p λ gateway is same.
        and_then_some last_fields (after (codes ",") text) gateway is λ rest comma read.
        subst AreBytes (same_Some _ _ same) (last_bytes rest gateway.0 gateway.1 read)

-- the local address, and what follows it
abbrev IsLast : List ℕ × List ℕ → Type 0
IsLast local = AreBytes local.0 × AreBytes local.1

abbrev with_last : List ℕ × List ℕ → Option (List ℕ × List ℕ)
with_last address = last_read address.1 >>= λ last. Some (address.0, last)

omitted_bytes : IsLast omitted_local
omitted_bytes = (zeros 16, then_byte 64 no_address (omega arith) (zeros 16))

local_bytes : (text : List ℕ) (local : List ℕ × List ℕ) → local_read text ≡ Some local → IsLast local
local_bytes text local e = by (closes_call text) e
  where
    by : (b : Bool) → cond b (Some omitted_local) (after (codes ",") text >>= address_read >>= with_last) ≡ Some local → IsLast local
    by true p = subst IsLast (same_Some _ _ p) omitted_bytes
    by false p =
        and_then_some with_last (after (codes ",") text >>= address_read) local p λ address is others.
        and_then_some address_read (after (codes ",") text) address is λ rest comma read.
        and_then_some _ (last_read address.1) local others λ last got same.
        subst IsLast (same_Some _ _ same) (address_bytes rest address.0 address.1 read, end_bytes address.1 last got)

-- the number of a word, or another
or_small : (n : ℕ) (a : Option (List ℕ)) (other : Option (ℕ × List ℕ)) (m : ℕ) (rest : List ℕ) → n < 256
    → (other ≡ Some (m, rest) → m < 256) → or_word n a other ≡ Some (m, rest) → m < 256
or_small n None other m rest l h e = h e
or_small n (Some left) other m rest l h e = subst (λ (k : ℕ). k < 256) (same_parts n m left rest e).0 l

origin_small : (text : List ℕ) (m : ℕ) (rest : List ℕ) → origin_read text ≡ Some (m, rest) → m < 256
origin_small text m rest e =
    or_small 0 (after (codes "STATIC") text) _ m rest (omega arith)
    (or_small 1 (after (codes "STATELESSAUTOCONFIGURE") text) _ m rest (omega arith)
    (or_small 2 (after (codes "STATEFULAUTOCONFIGURE") text) None m rest (omega arith) (λ (p : None ≡ Some (m, rest)). absurd (none-some _ p)))) e

connection_bytes : (remote : List ℕ) (protocol origin : ℕ) (local : List ℕ × List ℕ) → AreBytes remote → origin < 256 → IsLast local
    → AreBytes (connection remote protocol origin local)
connection_bytes remote protocol origin local r o l =
    let settings : List ℕ = low_bytes 2 protocol ++ (origin ∷ local.1) in
    both local.0 (remote ++ (0 ∷ 0 ∷ 0 ∷ 0 ∷ settings)) l.0 (both remote (0 ∷ 0 ∷ 0 ∷ 0 ∷ settings) r (both (0 ∷ 0 ∷ 0 ∷ 0 ∷ []) settings (zeros 4)
    (then_byte (protocol % 256) (protocol / 256 % 256 ∷ origin ∷ local.1) (omega arith)
    (then_byte (protocol / 256 % 256) (origin ∷ local.1) (omega arith) (then_byte origin local.1 o l.1)))))

abbrev with_local : List ℕ → ℕ → ℕ × List ℕ → Option (List ℕ)
with_local remote protocol origin = local_read origin.1 >>= λ local. Some (connection remote protocol origin.0 local)

origin_bytes : (remote : List ℕ) (protocol : ℕ) (text content : List ℕ) → AreBytes remote → origin_on remote protocol text ≡ Some content → AreBytes content
origin_bytes remote protocol text content r e = by (closes_call text) e
  where
    by : (b : Bool) → cond b (Some (connection remote protocol 0 omitted_local)) (after (codes ",") text >>= origin_read >>= with_local remote protocol) ≡ Some content
        → AreBytes content
    by true p = subst AreBytes (same_Some _ _ p) (connection_bytes remote protocol 0 omitted_local r (omega arith) omitted_bytes)
    by false p =
        and_then_some (with_local remote protocol) (after (codes ",") text >>= origin_read) content p λ origin got left.
        and_then_some origin_read (after (codes ",") text) origin got λ rest comma read.
        and_then_some _ (local_read origin.1) content left λ local found same.
        subst AreBytes (same_Some _ _ same) (connection_bytes remote protocol origin.0 local r (origin_small rest origin.0 origin.1 read) (local_bytes origin.1 local found))

settings_bytes : (remote text content : List ℕ) → AreBytes remote → settings_read remote text ≡ Some content → AreBytes content
settings_bytes remote text content r e = by (closes_call text) e
  where
    by : (b : Bool) → cond b (origin_on remote 0 text) (after (codes ",") text >>= protocol_read >>= λ protocol. origin_on remote protocol.0 protocol.1) ≡ Some content
        → AreBytes content
    by true p = origin_bytes remote 0 text content r p
    by false p =
        and_then_some _ (after (codes ",") text >>= protocol_read) content p λ protocol is others.
        origin_bytes remote protocol.0 protocol.1 content r others

pub call_bytes : (text content : List ℕ) → call_data text ≡ Some content → AreBytes content
call_bytes text content e =
    and_then_some _ (after (codes "IPV6(") text >>= address_read) content e λ remote is settings.
    and_then_some address_read (after (codes "IPV6(") text) remote is λ rest start read.
    settings_bytes remote.0 remote.1 content (address_bytes rest remote.0 remote.1 read) settings
