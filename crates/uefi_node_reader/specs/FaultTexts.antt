-- The texts of what is expected in a text. Numbers are in hexadecimal, and counts of digits in decimal.
use Rattle.std.specs.Prelude.{ℕ, List, [], ◌++◌, codes, encode_utf8, slice_get}
use Rattle.std.specs.Fmt.{decimal}
use Rattle.std.specs.Option.{unwrap_or}
use Rattle.uefi_device_nodes.specs.FieldTexts.{hex}
use Rattle.uefi_device_nodes.specs.Table.{forms}
use Rattle.uefi_node_reader.specs.NearNames.{other_names, start_at}
use Rattle.uefi_node_reader.specs.declared.errors.faults.Choice.{Choice}
use Rattle.uefi_node_reader.specs.declared.errors.faults.Choice.TheVariants as choice
use Rattle.uefi_node_reader.specs.declared.errors.faults.Expected.{Expected}
use Rattle.uefi_node_reader.specs.declared.errors.faults.Expected.TheVariants as expected

-- what a field accepts
abbrev pub choice_text : Choice → List ℕ
choice_text choice.AtaChannel = codes "`Primary` or `Secondary`"
choice_text choice.AtaDrive = codes "`Master` or `Slave`"
choice_text choice.PartitionFormat = codes "`GPT` or `MBR`"
choice_text choice.SasProtocol = codes "`SAS`, `SATA`, `NoTopology` or a number"
choice_text choice.SasLocation = codes "`Internal` or `External`"
choice_text choice.SasConnection = codes "`Direct` or `Expanded`"
choice_text choice.IpProtocol = codes "`TCP`, `UDP` or a number"
choice_text choice.Ipv4Origin = codes "`DHCP` or `Static`"
choice_text choice.Ipv6Origin = codes "`Static`, `StatelessAutoConfigure` or `StatefulAutoConfigure`"
choice_text choice.BootDevice = codes "`Floppy`, `HD`, `CDROM`, `PCMCIA`, `USB`, `Network` or a number"
choice_text choice.FlowControl = codes "`None`, `Hardware` or `XonXoff`"
choice_text choice.Digest = codes "`None` or `CRC32C`"
choice_text choice.Login = codes "`None`, `CHAP_BI` or `CHAP_UNI`"
choice_text choice.IscsiProtocol = codes "`TCP`"
choice_text choice.AcpiId = codes "an ID such as `PNP0A03`, or `0x` and 8 digits"
choice_text choice.MacAddress = codes "an address of 12 hexadecimal digits, such as `525400ABCDEF`"
choice_text choice.IpAddress = codes "an IP address"
choice_text choice.Guid = codes "a GUID"

-- the text of what is expected at a byte of a text
abbrev pub expected_text : Expected → List ℕ
expected_text expected.Node = codes "the name of a node"
expected_text (expected.NodeLike place) =
    codes "the name of a node, such as `" ++ (unwrap_or (start_at forms place) [] ++ codes "`")
expected_text (expected.OtherName place) =
    codes "the name of a node, such as `" ++ (unwrap_or (slice_get other_names place) [] ++ codes "`")
expected_text (expected.Number most) = codes "a number up to 0x" ++ hex most
expected_text (expected.NumberOrDefault most) = codes "DEFAULT or a number up to 0x" ++ hex most
expected_text (expected.NumberFromOne most) = codes "a number from 1 to 0x" ++ hex most
expected_text (expected.Digits count) = decimal count ++ codes " hexadecimal digits"
expected_text (expected.DashedDigits count) =
    decimal count ++ codes " hexadecimal digits in pairs, with dashes between them"
expected_text expected.Parity = codes "a parity (D, N, E, O, M, S or x) and `,`"
expected_text expected.StopBits = codes "stop bits (D, 1, 1.5, 2 or x) and `)`"
expected_text (expected.Byte byte) = codes "`" ++ encode_utf8 byte ++ codes "`"
expected_text expected.FileName = codes "the name of a file"
expected_text (expected.Word words) = choice_text words
expected_text expected.Id = codes "an ID such as `PNP0A03`, or `0`"
expected_text expected.End = codes "`/`, `,` or the end of the text"
expected_text expected.AsPrinted = codes "the exact printed form"
expected_text expected.Base = codes "a number after `0x`"
expected_text expected.Untold = codes "a form that describes the whole node, of at most 65,535 bytes"
