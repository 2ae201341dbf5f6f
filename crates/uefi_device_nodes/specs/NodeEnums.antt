-- The kinds of nodes.
use Rattle.std.specs.Prelude.{◌≡◌, ℕ, ◌==◌, nat_lt, if◌then◌else◌, List, [], ◌∷◌, ◌++◌, length, Option, Some, None}
use Rattle.uefi_device_nodes.specs.Nodes.{Node}
use Rattle.uefi_device_nodes.specs.NodeViews.{data_of, file_node}
use Rattle.uefi_device_nodes.specs.FileNodes.{IsFilePath, file_path_refusal, is_file}
use Rattle.uefi_device_nodes.specs.TypedNodes.{IsOfKind}
use Rattle.uefi_device_nodes.specs.declared.node_table.layouts.TheConstants.{ACPI_TYPE, BIOS_BOOT_SPEC_TYPE, HARDWARE_TYPE, MEDIA_TYPE, MESSAGING_TYPE}
use Rattle.uefi_device_nodes.specs.declared.node_table.layouts.acpi.acpi.TheConstants as acpi
use Rattle.uefi_device_nodes.specs.declared.node_table.layouts.acpi.adr.TheConstants as adr
use Rattle.uefi_device_nodes.specs.declared.node_table.layouts.messaging.atapi.TheConstants as atapi
use Rattle.uefi_device_nodes.specs.declared.node_table.layouts.messaging.bluetooth.TheConstants as bluetooth
use Rattle.uefi_device_nodes.specs.declared.node_table.layouts.messaging.bluetooth_le.TheConstants as bluetooth_le
use Rattle.uefi_device_nodes.specs.declared.node_table.layouts.hardware.bmc.TheConstants as bmc
use Rattle.uefi_device_nodes.specs.declared.node_table.layouts.bios_boot_spec.boot_specification.TheConstants as boot_specification
use Rattle.uefi_device_nodes.specs.declared.node_table.layouts.media.cd_rom.TheConstants as cd_rom
use Rattle.uefi_device_nodes.specs.declared.node_table.layouts.hardware.controller.TheConstants as controller
use Rattle.uefi_device_nodes.specs.declared.node_table.layouts.messaging.device_logical_unit.TheConstants as device_logical_unit
use Rattle.uefi_device_nodes.specs.declared.node_table.layouts.messaging.dns.TheConstants as dns
use Rattle.uefi_device_nodes.specs.declared.node_table.layouts.messaging.emmc.TheConstants as emmc
use Rattle.uefi_device_nodes.specs.declared.node_table.layouts.acpi.expanded.TheConstants as expanded
use Rattle.uefi_device_nodes.specs.declared.node_table.layouts.messaging.fibre_channel.TheConstants as fibre_channel
use Rattle.uefi_device_nodes.specs.declared.node_table.layouts.messaging.fibre_channel_ex.TheConstants as fibre_channel_ex
use Rattle.uefi_device_nodes.specs.declared.node_table.layouts.media.firmware_file.TheConstants as firmware_file
use Rattle.uefi_device_nodes.specs.declared.node_table.layouts.media.firmware_volume.TheConstants as firmware_volume
use Rattle.uefi_device_nodes.specs.declared.node_table.layouts.media.hard_drive.TheConstants as hard_drive
use Rattle.uefi_device_nodes.specs.declared.node_table.layouts.hardware.hardware_vendor.TheConstants as hardware_vendor
use Rattle.uefi_device_nodes.specs.declared.node_table.layouts.messaging.i2o.TheConstants as i2o
use Rattle.uefi_device_nodes.specs.declared.node_table.layouts.messaging.ieee1394.TheConstants as ieee1394
use Rattle.uefi_device_nodes.specs.declared.node_table.layouts.messaging.infiniband.TheConstants as infiniband
use Rattle.uefi_device_nodes.specs.declared.node_table.layouts.messaging.ipv4.TheConstants as ipv4
use Rattle.uefi_device_nodes.specs.declared.node_table.layouts.messaging.ipv6.TheConstants as ipv6
use Rattle.uefi_device_nodes.specs.declared.node_table.layouts.messaging.iscsi.TheConstants as iscsi
use Rattle.uefi_device_nodes.specs.declared.node_table.layouts.messaging.mac_address.TheConstants as mac_address
use Rattle.uefi_device_nodes.specs.declared.node_table.layouts.media.media_vendor.TheConstants as media_vendor
use Rattle.uefi_device_nodes.specs.declared.node_table.layouts.hardware.memory_mapped.TheConstants as memory_mapped
use Rattle.uefi_device_nodes.specs.declared.node_table.layouts.messaging.messaging_vendor.TheConstants as messaging_vendor
use Rattle.uefi_device_nodes.specs.declared.node_table.layouts.acpi.nvdimm.TheConstants as nvdimm
use Rattle.uefi_device_nodes.specs.declared.node_table.layouts.messaging.nvdimm_namespace.TheConstants as nvdimm_namespace
use Rattle.uefi_device_nodes.specs.declared.node_table.layouts.messaging.nvme_namespace.TheConstants as nvme_namespace
use Rattle.uefi_device_nodes.specs.declared.node_table.layouts.messaging.nvme_of_namespace.TheConstants as nvme_of_namespace
use Rattle.uefi_device_nodes.specs.declared.node_table.layouts.hardware.pccard.TheConstants as pccard
use Rattle.uefi_device_nodes.specs.declared.node_table.layouts.hardware.pci.TheConstants as pci
use Rattle.uefi_device_nodes.specs.declared.node_table.layouts.media.protocol.TheConstants as protocol
use Rattle.uefi_device_nodes.specs.declared.node_table.layouts.media.ram_disk.TheConstants as ram_disk
use Rattle.uefi_device_nodes.specs.declared.node_table.layouts.media.relative_offset_range.TheConstants as relative_offset_range
use Rattle.uefi_device_nodes.specs.declared.node_table.layouts.messaging.rest_service.TheConstants as rest_service
use Rattle.uefi_device_nodes.specs.declared.node_table.layouts.messaging.sas_ex.TheConstants as sas_ex
use Rattle.uefi_device_nodes.specs.declared.node_table.layouts.messaging.sata.TheConstants as sata
use Rattle.uefi_device_nodes.specs.declared.node_table.layouts.messaging.scsi.TheConstants as scsi
use Rattle.uefi_device_nodes.specs.declared.node_table.layouts.messaging.sd.TheConstants as sd
use Rattle.uefi_device_nodes.specs.declared.node_table.layouts.messaging.uart.TheConstants as uart
use Rattle.uefi_device_nodes.specs.declared.node_table.layouts.messaging.ufs.TheConstants as ufs
use Rattle.uefi_device_nodes.specs.declared.node_table.layouts.messaging.uri.TheConstants as uri
use Rattle.uefi_device_nodes.specs.declared.node_table.layouts.messaging.usb.TheConstants as usb
use Rattle.uefi_device_nodes.specs.declared.node_table.layouts.messaging.usb_class.TheConstants as usb_class
use Rattle.uefi_device_nodes.specs.declared.node_table.layouts.messaging.usb_wwid.TheConstants as usb_wwid
use Rattle.uefi_device_nodes.specs.declared.node_table.layouts.messaging.vlan.TheConstants as vlan
use Rattle.uefi_device_nodes.specs.declared.node_table.layouts.messaging.wifi.TheConstants as wifi
use Rattle.uefi_device_nodes.specs.declared.errors.NodeConversionError.{NodeConversionError}
use Rattle.uefi_device_nodes.specs.declared.errors.NodeConversionError.TheVariants.{InvalidLength, UnsupportedType}
use Rattle.uefi_device_nodes.specs.declared.typed_node.TypedNode.{TypedNode}
use Rattle.uefi_device_nodes.specs.declared.node_enum.DevicePathNodeEnum.{DevicePathNodeEnum}
use Rattle.uefi_device_nodes.specs.declared.node_enum.DevicePathNodeEnum.TheVariants as view

module _ {kind sub_kind least : ℕ} where
  -- a view shows a node: the node is of the view's kind, and the view has its data
  pub record Shows (shown : TypedNode kind sub_kind least) (node : Node) : Type 0 where
    pub of_kind : IsOfKind kind sub_kind least node
    pub same_data : data_of shown ≡ node.content

-- a view belongs to the kind of a node, and shows the node
abbrev pub IsNodeOf : DevicePathNodeEnum → Node → Type 0
IsNodeOf (view.HardwarePci shown) node = Shows shown node
IsNodeOf (view.HardwarePccard shown) node = Shows shown node
IsNodeOf (view.HardwareMemoryMapped shown) node = Shows shown node
IsNodeOf (view.HardwareVendor shown) node = Shows shown node
IsNodeOf (view.HardwareController shown) node = Shows shown node
IsNodeOf (view.HardwareBmc shown) node = Shows shown node
IsNodeOf (view.AcpiAcpi shown) node = Shows shown node
IsNodeOf (view.AcpiExpanded shown) node = Shows shown node
IsNodeOf (view.AcpiAdr shown) node = Shows shown node
IsNodeOf (view.AcpiNvdimm shown) node = Shows shown node
IsNodeOf (view.MessagingAtapi shown) node = Shows shown node
IsNodeOf (view.MessagingScsi shown) node = Shows shown node
IsNodeOf (view.MessagingFibreChannel shown) node = Shows shown node
IsNodeOf (view.MessagingIeee1394 shown) node = Shows shown node
IsNodeOf (view.MessagingUsb shown) node = Shows shown node
IsNodeOf (view.MessagingI2o shown) node = Shows shown node
IsNodeOf (view.MessagingInfiniband shown) node = Shows shown node
IsNodeOf (view.MessagingVendor shown) node = Shows shown node
IsNodeOf (view.MessagingMacAddress shown) node = Shows shown node
IsNodeOf (view.MessagingIpv4 shown) node = Shows shown node
IsNodeOf (view.MessagingIpv6 shown) node = Shows shown node
IsNodeOf (view.MessagingUart shown) node = Shows shown node
IsNodeOf (view.MessagingUsbClass shown) node = Shows shown node
IsNodeOf (view.MessagingUsbWwid shown) node = Shows shown node
IsNodeOf (view.MessagingDeviceLogicalUnit shown) node = Shows shown node
IsNodeOf (view.MessagingSata shown) node = Shows shown node
IsNodeOf (view.MessagingIscsi shown) node = Shows shown node
IsNodeOf (view.MessagingVlan shown) node = Shows shown node
IsNodeOf (view.MessagingFibreChannelEx shown) node = Shows shown node
IsNodeOf (view.MessagingSasEx shown) node = Shows shown node
IsNodeOf (view.MessagingNvmeNamespace shown) node = Shows shown node
IsNodeOf (view.MessagingUri shown) node = Shows shown node
IsNodeOf (view.MessagingUfs shown) node = Shows shown node
IsNodeOf (view.MessagingSd shown) node = Shows shown node
IsNodeOf (view.MessagingBluetooth shown) node = Shows shown node
IsNodeOf (view.MessagingWifi shown) node = Shows shown node
IsNodeOf (view.MessagingEmmc shown) node = Shows shown node
IsNodeOf (view.MessagingBluetoothLe shown) node = Shows shown node
IsNodeOf (view.MessagingDns shown) node = Shows shown node
IsNodeOf (view.MessagingNvdimmNamespace shown) node = Shows shown node
IsNodeOf (view.MessagingRestService shown) node = Shows shown node
IsNodeOf (view.MessagingNvmeOfNamespace shown) node = Shows shown node
IsNodeOf (view.MediaHardDrive shown) node = Shows shown node
IsNodeOf (view.MediaCdRom shown) node = Shows shown node
IsNodeOf (view.MediaVendor shown) node = Shows shown node
IsNodeOf (view.MediaFilePath path) node = IsFilePath node × (file_node path ≡ node)
IsNodeOf (view.MediaProtocol shown) node = Shows shown node
IsNodeOf (view.MediaPiwgFirmwareFile shown) node = Shows shown node
IsNodeOf (view.MediaPiwgFirmwareVolume shown) node = Shows shown node
IsNodeOf (view.MediaRelativeOffsetRange shown) node = Shows shown node
IsNodeOf (view.MediaRamDisk shown) node = Shows shown node
IsNodeOf (view.BiosBootSpecBootSpecification shown) node = Shows shown node

-- the kinds of type Hardware whose nodes have fields: the sub-type of each, and the least number of bytes of
-- data
abbrev pub hardware_kinds : List (ℕ × ℕ)
hardware_kinds = (pci.SUB_TYPE, pci.LEAST) ∷ (pccard.SUB_TYPE, pccard.LEAST) ∷
    (memory_mapped.SUB_TYPE, memory_mapped.LEAST) ∷
    (hardware_vendor.SUB_TYPE, hardware_vendor.LEAST) ∷ (controller.SUB_TYPE, controller.LEAST) ∷
    (bmc.SUB_TYPE, bmc.LEAST) ∷ []

-- the kinds of type ACPI
abbrev pub acpi_kinds : List (ℕ × ℕ)
acpi_kinds = (acpi.SUB_TYPE, acpi.LEAST) ∷ (expanded.SUB_TYPE, expanded.LEAST) ∷
    (adr.SUB_TYPE, adr.LEAST) ∷ (nvdimm.SUB_TYPE, nvdimm.LEAST) ∷ []

-- the kinds of type Messaging for devices on buses, serial ports and vendor-defined nodes
abbrev pub bus_kinds : List (ℕ × ℕ)
bus_kinds = (ieee1394.SUB_TYPE, ieee1394.LEAST) ∷ (usb.SUB_TYPE, usb.LEAST) ∷
    (i2o.SUB_TYPE, i2o.LEAST) ∷ (messaging_vendor.SUB_TYPE, messaging_vendor.LEAST) ∷
    (uart.SUB_TYPE, uart.LEAST) ∷ (usb_class.SUB_TYPE, usb_class.LEAST) ∷
    (usb_wwid.SUB_TYPE, usb_wwid.LEAST) ∷ []

-- the kinds of type Messaging for storage
abbrev pub storage_kinds : List (ℕ × ℕ)
storage_kinds = (atapi.SUB_TYPE, atapi.LEAST) ∷ (scsi.SUB_TYPE, scsi.LEAST) ∷
    (fibre_channel.SUB_TYPE, fibre_channel.LEAST) ∷
    (device_logical_unit.SUB_TYPE, device_logical_unit.LEAST) ∷ (sata.SUB_TYPE, sata.LEAST) ∷
    (fibre_channel_ex.SUB_TYPE, fibre_channel_ex.LEAST) ∷ (sas_ex.SUB_TYPE, sas_ex.LEAST) ∷
    (nvme_namespace.SUB_TYPE, nvme_namespace.LEAST) ∷ (ufs.SUB_TYPE, ufs.LEAST) ∷
    (sd.SUB_TYPE, sd.LEAST) ∷ (emmc.SUB_TYPE, emmc.LEAST) ∷
    (nvdimm_namespace.SUB_TYPE, nvdimm_namespace.LEAST) ∷ []

-- the kinds of type Messaging for networks, and for what is reached over them
abbrev pub network_kinds : List (ℕ × ℕ)
network_kinds = (infiniband.SUB_TYPE, infiniband.LEAST) ∷
    (mac_address.SUB_TYPE, mac_address.LEAST) ∷ (ipv4.SUB_TYPE, ipv4.LEAST) ∷
    (ipv6.SUB_TYPE, ipv6.LEAST) ∷ (iscsi.SUB_TYPE, iscsi.LEAST) ∷ (vlan.SUB_TYPE, vlan.LEAST) ∷
    (uri.SUB_TYPE, uri.LEAST) ∷ (bluetooth.SUB_TYPE, bluetooth.LEAST) ∷
    (wifi.SUB_TYPE, wifi.LEAST) ∷ (bluetooth_le.SUB_TYPE, bluetooth_le.LEAST) ∷
    (dns.SUB_TYPE, dns.LEAST) ∷ (rest_service.SUB_TYPE, rest_service.LEAST) ∷
    (nvme_of_namespace.SUB_TYPE, nvme_of_namespace.LEAST) ∷ []

-- all kinds of type Messaging
abbrev pub messaging_kinds : List (ℕ × ℕ)
messaging_kinds = bus_kinds ++ (storage_kinds ++ network_kinds)

-- the kinds of type Media, except files
abbrev pub media_kinds : List (ℕ × ℕ)
media_kinds = (hard_drive.SUB_TYPE, hard_drive.LEAST) ∷ (cd_rom.SUB_TYPE, cd_rom.LEAST) ∷
    (media_vendor.SUB_TYPE, media_vendor.LEAST) ∷ (protocol.SUB_TYPE, protocol.LEAST) ∷
    (firmware_file.SUB_TYPE, firmware_file.LEAST) ∷
    (firmware_volume.SUB_TYPE, firmware_volume.LEAST) ∷
    (relative_offset_range.SUB_TYPE, relative_offset_range.LEAST) ∷
    (ram_disk.SUB_TYPE, ram_disk.LEAST) ∷ []

-- the kinds of type BIOS Boot Specification
abbrev pub bios_boot_spec_kinds : List (ℕ × ℕ)
bios_boot_spec_kinds = (boot_specification.SUB_TYPE, boot_specification.LEAST) ∷ []

-- why a node is of no kind in a list of kinds of its type, or none
abbrev pub refusal_among : List (ℕ × ℕ) → Node → Option NodeConversionError
refusal_among [] node = Some UnsupportedType
refusal_among (kind ∷ kinds) node = if node.sub_type == kind.0
    then (if nat_lt (length node.content) kind.1 then Some InvalidLength else None)
    else refusal_among kinds node

-- why a node has no view, or none
abbrev pub enum_refusal : Node → Option NodeConversionError
enum_refusal node = if is_file node then file_path_refusal node
    else if node.device_type == HARDWARE_TYPE then refusal_among hardware_kinds node
    else if node.device_type == ACPI_TYPE then refusal_among acpi_kinds node
    else if node.device_type == MESSAGING_TYPE then refusal_among messaging_kinds node
    else if node.device_type == MEDIA_TYPE then refusal_among media_kinds node
    else if node.device_type == BIOS_BOOT_SPEC_TYPE then refusal_among bios_boot_spec_kinds node
    else Some UnsupportedType
