-- Nodes of IPv6 connections as people write them, in tidied calls: with addresses in any form of RFC 4291,
-- section 2.2, and without the fields that people omit.
use Rattle.std.specs.Prelude.{ℕ, nat_le, Bool, true, false, ◌==◌, ◌&&◌, ◌||◌, if◌then◌else◌, List, [], ◌∷◌, ◌++◌, codes, drop, length, slice_index, take, Option, Some, None}
use Rattle.std.specs.List.{position_or_len}
use Rattle.std.specs.Net.Addr.{ipv6_octets, octets_of}
use Rattle.std.specs.declared.net.ipv6_addr.Ipv6Addr.{Ipv6Addr}
use Rattle.std.specs.Net.Reader.{read_ipv6, whole_value}
use Rattle.std.specs.Option.{option_map}
use Rattle.std.proofs.Math.ListN.{replicate}
use Rattle.uefi_device_nodes.specs.Rows.{find_form}
use Rattle.uefi_device_nodes.specs.Table.{forms}
use Rattle.uefi_device_nodes.specs.declared.node_table.rows.Tail.{Tail}
use Rattle.uefi_device_nodes.specs.declared.node_table.rows.Tail.TheVariants.{Nothing}
use Rattle.uefi_device_nodes.specs.declared.node_table.layouts.TheConstants.{MESSAGING_TYPE}
use Rattle.uefi_device_nodes.specs.declared.node_table.layouts.messaging.ipv6.TheConstants as ipv6
use Rattle.uefi_device_nodes.specs.Nodes.{Node, node_with}
use Rattle.uefi_node_reader.specs.CompleteTexts.{tells}
use Rattle.uefi_node_reader.specs.FieldReading.{◌>>=◌, low_bytes}
use Rattle.uefi_node_reader.specs.LenientFields.{any_number}
use Rattle.uefi_node_reader.specs.TableReading.{first_of, prints}
use Rattle.uefi_node_reader.specs.WordReading.{after, or_word}

-- the octets of the address that a whole text encodes; the longest text is that of eight segments, of which
-- an IPv4 address stands for the last two
unfoldable pub address_octets : List ℕ → Option (List ℕ)
address_octets text = if nat_le (length text) 45
    then option_map octets_of (whole_value (read_ipv6 text)) else None

-- whether a byte ends an address: a comma, a `)` or a `]`
abbrev pub ends_address : ℕ → Bool
ends_address byte = (byte == 44) || ((byte == 41) || (byte == 93))

-- the octets of an address, and the rest of the text
abbrev pub bare_address : List ℕ → Option (List ℕ × List ℕ)
bare_address text = option_map (λ octets. (octets, drop (position_or_len ends_address text) text))
    (address_octets (take (position_or_len ends_address text) text))

-- the octets of an address from the byte after `[` on, and the rest of the text after the `]`
abbrev pub closed_address : List ℕ → Option (List ℕ × List ℕ)
closed_address text = do
  address ← bare_address text
  rest ← after (codes "]") address.1
  Some (address.0, rest)

-- the octets of an address, perhaps in brackets, and the rest of the text
abbrev pub address_read : List ℕ → Option (List ℕ × List ℕ)
address_read text = if first_of text == 91 then closed_address (drop 1 text) else bare_address text

-- the number of a protocol, from its name or its number, and the rest of the text
abbrev pub protocol_read : List ℕ → Option (ℕ × List ℕ)
protocol_read text = or_word 6 (after (codes "TCP") text)
    (or_word 17 (after (codes "UDP") text) (any_number 65536 text))

-- the number of the origin of an address, and the rest of the text
abbrev pub origin_read : List ℕ → Option (ℕ × List ℕ)
origin_read text = or_word 0 (after (codes "STATIC") text)
    (or_word 1 (after (codes "STATELESSAUTOCONFIGURE") text)
    (or_word 2 (after (codes "STATEFULAUTOCONFIGURE") text) None))

-- whether a text is only the `)` at the end of a call
abbrev pub closes_call : List ℕ → Bool
closes_call text = (length text == 1) && (slice_index text 0 == 41)

-- the address `::`
abbrev pub no_address : List ℕ
no_address = replicate 16 0

-- a value that was read, if its call ends after it
abbrev pub at_end : {A : Type 0} → A × List ℕ → Option A
at_end read = if closes_call read.1 then Some read.0 else None

-- the prefix length and the gateway at the end of a call
abbrev pub last_fields : List ℕ → Option (ℕ × List ℕ)
last_fields text = do
  prefix ← any_number 256 text
  gateway ← after (codes ",") prefix.1 >>= address_read >>= at_end
  Some (prefix.0, gateway)

-- the end of a connection's data: the prefix length and the gateway, which a short node lacks
abbrev pub last_part : Option (ℕ × List ℕ) → List ℕ
last_part None = []
last_part (Some gateway) = gateway.0 ∷ gateway.1

abbrev pub gateway_part : Option (ℕ × Ipv6Addr) → List ℕ
gateway_part gateway = last_part (option_map (λ y. (y.0, ipv6_octets y.1)) gateway)

-- the end of the data, from the end of a call after the local address; a call that ends there is a short node
abbrev pub last_read : List ℕ → Option (List ℕ)
last_read text = if closes_call text then Some (last_part None)
    else (after (codes ",") text >>= last_fields >>= λ gateway. Some (last_part (Some gateway)))

-- the local address and the end of the data of a connection whose text omits them, as the network drivers of
-- EDK II write them: no address, a prefix length of 64, and no gateway
abbrev pub omitted_local : List ℕ × List ℕ
omitted_local = (no_address, 64 ∷ no_address)

-- the local address and the end of the data, from the end of a call after the origin
abbrev pub local_read : List ℕ → Option (List ℕ × List ℕ)
local_read text = if closes_call text then Some omitted_local
    else (after (codes ",") text >>= address_read >>= λ local.
    last_read local.1 >>= λ last. Some (local.0, last))

-- the data of a connection without ports, from the remote address, the protocol, the origin of the local
-- address, and the local address and the end of the data (UEFI Specification 2.10, section 10.3.4)
abbrev pub connection : List ℕ → ℕ → ℕ → List ℕ × List ℕ → List ℕ
connection remote protocol origin local = local.0 ++ (remote ++ (0 ∷ 0 ∷ 0 ∷ 0 ∷
    (low_bytes 2 protocol ++ (origin ∷ local.1))))

-- the data of a connection, from the end of its call after the protocol; the drivers of EDK II write the
-- origin 0
abbrev pub origin_on : List ℕ → ℕ → List ℕ → Option (List ℕ)
origin_on remote protocol text =
    if closes_call text then Some (connection remote protocol 0 omitted_local)
    else (after (codes ",") text >>= origin_read >>= λ origin.
    local_read origin.1 >>= λ local. Some (connection remote protocol origin.0 local))

-- the data of a connection, from the end of its call after the remote address; the drivers of EDK II write
-- the protocol 0
abbrev pub settings_read : List ℕ → List ℕ → Option (List ℕ)
settings_read remote text = if closes_call text then origin_on remote 0 text
    else (after (codes ",") text >>= protocol_read >>= λ protocol. origin_on remote protocol.0 protocol.1)

-- the data of a connection, from its whole call
abbrev pub call_data : List ℕ → Option (List ℕ)
call_data text = after (codes "IPV6(") text >>= address_read >>= λ remote. settings_read remote.0 remote.1

-- whether a form's data ends with its fixed part
abbrev pub is_fixed : Tail → Bool
is_fixed Nothing = true
is_fixed tail = false

-- a node with no data after its fixed part, if it is completely described by the text that it is printed as
abbrev pub told_fixed : Node → Option Node
told_fixed node = do
  form ← find_form (prints node) forms
  if is_fixed form.tail && tells form node then Some node else None

-- the node of an IPv6 connection, from its tidied call
unfoldable pub short_ipv6 : List ℕ → Option Node
short_ipv6 text = do
  content ← call_data text
  told_fixed (node_with MESSAGING_TYPE ipv6.SUB_TYPE content)
