-- Device paths beside others: short forms, and what they stand for (UEFI Specification 2.10, section 3.1.2).
use Rattle.std.specs.Prelude.{◌≡◌, ℕ, Bool, ◌==◌, ◌&&◌, if◌then◌else◌, ◌⊎◌, List, [], ◌∷◌, ◌++◌, Option, None, Some}
use Rattle.uefi_device_nodes.specs.declared.node_table.layouts.TheConstants.{MEDIA_TYPE, MESSAGING_TYPE}
use Rattle.uefi_device_nodes.specs.declared.node_table.layouts.media.file_path.TheConstants as file_path
use Rattle.uefi_device_nodes.specs.declared.node_table.layouts.media.hard_drive.TheConstants as hard_drive
use Rattle.uefi_device_nodes.specs.declared.node_table.layouts.messaging.uri.TheConstants as uri
use Rattle.uefi_device_nodes.specs.declared.node_table.layouts.messaging.usb_class.TheConstants as usb_class
use Rattle.uefi_device_nodes.specs.declared.node_table.layouts.messaging.usb_wwid.TheConstants as usb_wwid
use Rattle.uefi_device_nodes.specs.Nodes.{Node}
use Rattle.uefi_device_nodes.specs.TypedNodes.{IsOfKind, bytes_in, number_in}
use Rattle.uefi_device_path.specs.declared.matching.ShortForm.{ShortForm}
use Rattle.uefi_device_path.specs.declared.matching.ShortForm.TheVariants.{HardDrive, File, UsbClass, UsbWwid, Uri}

-- the test for a node of a type and a sub-type
abbrev pub is_of_type : ℕ → ℕ → Node → Bool
is_of_type device_type sub_type node = (node.device_type == device_type) && (node.sub_type == sub_type)

-- the short form that a path has if this is its first node
abbrev pub short_form_of : Node → Option ShortForm
short_form_of node =
    if is_of_type MEDIA_TYPE hard_drive.SUB_TYPE node then Some HardDrive
    else if is_of_type MEDIA_TYPE file_path.SUB_TYPE node then Some File
    else if is_of_type MESSAGING_TYPE usb_class.SUB_TYPE node then Some UsbClass
    else if is_of_type MESSAGING_TYPE usb_wwid.SUB_TYPE node then Some UsbWwid
    else if is_of_type MESSAGING_TYPE uri.SUB_TYPE node then Some Uri
    else None

-- the short form of a path
abbrev pub short_form : List Node → Option ShortForm
short_form [] = None
short_form (node ∷ nodes) = short_form_of node

-- nodes of partitions with one number and one signature
pub record NameOnePartition (node other : Node) : Type 0 where
  pub node_is : IsOfKind MEDIA_TYPE hard_drive.SUB_TYPE hard_drive.LEAST node
  pub other_is : IsOfKind MEDIA_TYPE hard_drive.SUB_TYPE hard_drive.LEAST other
  pub number : number_in hard_drive.PARTITION_NUMBER node.content
      ≡ number_in hard_drive.PARTITION_NUMBER other.content
  pub signature_type : number_in hard_drive.SIGNATURE_TYPE node.content
      ≡ number_in hard_drive.SIGNATURE_TYPE other.content
  pub signature : bytes_in hard_drive.PARTITION_SIGNATURE node.content
      ≡ bytes_in hard_drive.PARTITION_SIGNATURE other.content

-- what the first node of a short form names, a node names: a partition by its number and signature,
-- and a file or a URI by an equal node
abbrev pub Names : Node → Node → Type 0
Names first node =
    ((short_form_of first ≡ Some HardDrive) × NameOnePartition first node)
    ⊎ (((short_form_of first ≡ Some File) ⊎ (short_form_of first ≡ Some Uri)) × (first ≡ node))

-- a path is these nodes before a device, one that the first node of the short form names, and its other nodes
pub record Expands (nodes short before : List Node) (first node : Node) (rest : List Node) : Type 0 where
  pub short_is : short ≡ first ∷ rest
  pub nodes_are : nodes ≡ before ++ node ∷ rest
  pub named : Names first node

-- a short form stands for a path
abbrev pub IsExpansion : List Node → List Node → Type 0
IsExpansion nodes short =
    (before : List Node) × (first : Node) × (node : Node) × (rest : List Node)
    × Expands nodes short before first node rest
