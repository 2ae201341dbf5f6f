-- Texts of libefivar, if they are the specification's texts of other nodes, or have no form in the table.
use Rattle.std.specs.Prelude.{Bool, if◌then◌else◌, List, [], ◌∷◌, codes, length, ◌-◌, ℕ, Option, Some, None, Result, Err}
use Rattle.std.specs.Option.{option_map, option_or}
use Rattle.uefi_device_nodes.specs.Nodes.{Node}
use Rattle.uefi_device_nodes.specs.Rows.{Form}
use Rattle.uefi_device_nodes.specs.Table.{libefivar_forms}
use Rattle.uefi_node_reader.specs.Ambiguous.{begins_with}
use Rattle.uefi_node_reader.specs.FieldReading.{◌>>=◌}
use Rattle.uefi_node_reader.specs.LenientCalls.{cut_call, place_at, tidied, told_in}
use Rattle.uefi_node_reader.specs.LenientNodes.{begins_call, ended_at, fault_at_byte, lenient_read}
use Rattle.uefi_node_reader.specs.Stops.{stop_at}
use Rattle.uefi_node_reader.specs.TableReading.{form_read}
use Rattle.uefi_node_reader.specs.WordReading.{after}
use Rattle.uefi_node_reader.specs.declared.errors.faults.Expected.{Expected}
use Rattle.uefi_node_reader.specs.declared.errors.faults.Expected.TheVariants as expected
use Rattle.uefi_node_reader.specs.declared.errors.faults.NodeFault.{NodeFault}
use Rattle.uefi_node_reader.specs.declared.errors.faults.Stop.{Stop}

-- the node of a tidied text in the first of these forms that it matches exactly
abbrev pub forms_exact : List Form → List ℕ → Option Node
forms_exact [] text = None
forms_exact (form ∷ forms) text = option_or (told_in form (form_read form text)) (forms_exact forms text)

-- the node of the call at the start of a text in a form that only libefivar writes, and the rest of the text
abbrev pub own_call : List ℕ → Option (Node × List ℕ)
own_call text = do
  call ← cut_call text
  option_map (λ node. (node, call.1)) (forms_exact libefivar_forms (tidied call.0))

-- the node in a form that only libefivar prints, and the rest of the text, if the text begins with a call
abbrev pub own_read : List ℕ → Option (Node × List ℕ)
own_read text = if begins_call text then own_call text else None

-- a stop after this name, if a tidied call begins with it
abbrev pub stop_after : Expected → List ℕ → List ℕ → Option Stop
stop_after what name text = option_map (λ rest. stop_at rest what) (after name text)

-- a stop after this name, if a tidied call begins with it and no `0x` follows
abbrev pub base_after : List ℕ → List ℕ → Option Stop
base_after name text = do
  rest ← after name text
  if begins_with (codes "0x") rest then None else Some (stop_at rest expected.Base)

-- where a tidied call stops that libefivar prints for different nodes, in a form that it does not share, or
-- with a text of the device in place of its number
abbrev pub own_stop : List ℕ → Option Stop
own_stop text = option_or (stop_after expected.AsPrinted (codes "NVME(") text)
    (option_or (stop_after expected.Untold (codes "FIBRE(") text)
    (option_or (stop_after expected.Untold (codes "SAS(") text)
    (option_or (stop_after expected.Untold (codes "USBCLASS(") text)
    (option_or (base_after (codes "PCIROOT(") text) (base_after (codes "PCIEROOT(") text)))))

-- the fault of a text that begins with a call of libefivar that stops
abbrev pub own_fault : List ℕ → Option NodeFault
own_fault text = do
  call ← cut_call text
  option_map (λ stop. fault_at_byte (place_at (length (tidied call.0) - stop.left) text) stop.expected)
      (own_stop (tidied call.0))

-- what was read in a form that only libefivar prints, or else the fault of a call of libefivar that stops, or
-- else what people write
abbrev pub own_or_lenient : Bool → List ℕ → Option (Node × List ℕ) → Option NodeFault
    → Result (Node × List ℕ) NodeFault
own_or_lenient is_rooted text (Some read) fault = ended_at text read
own_or_lenient is_rooted text None (Some fault) = Err fault
own_or_lenient is_rooted text None None = lenient_read is_rooted text

-- the node at the start of a text as libefivar prints it, and the rest of the text, or the fault of the text
unfoldable pub libefivar_read : Bool → List ℕ → Result (Node × List ℕ) NodeFault
libefivar_read is_rooted text = own_or_lenient is_rooted text (own_read text) (own_fault text)
