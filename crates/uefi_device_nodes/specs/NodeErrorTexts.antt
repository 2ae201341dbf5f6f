-- The texts of the errors of nodes.
use Rattle.std.specs.Prelude.{ℕ, List, codes}
use Rattle.uefi_device_nodes.specs.declared.errors.NodeError.{NodeError}
use Rattle.uefi_device_nodes.specs.declared.errors.NodeError.TheVariants as node
use Rattle.uefi_device_nodes.specs.declared.errors.NodeConversionError.{NodeConversionError}
use Rattle.uefi_device_nodes.specs.declared.errors.NodeConversionError.TheVariants as conversion

-- the text of an error for bytes that begin with no node
abbrev pub node_error_text : NodeError → List ℕ
node_error_text node.Missing = codes "device path has no end node"
node_error_text node.TruncatedHeader = codes "device path ends within a node header"
node_error_text node.UnknownEnd = codes "end node has an unknown sub-type"
node_error_text node.LengthBelowHeader = codes "device path node is shorter than its header"
node_error_text node.EndWithData = codes "end node has data"
node_error_text node.BeyondEnd = codes "device path node extends past the end of the data"

-- the text of an error for a node that is not of a kind
abbrev pub node_conversion_error_text : NodeConversionError → List ℕ
node_conversion_error_text conversion.DifferentType =
    codes "device path node has a different type or sub-type"
node_conversion_error_text conversion.InvalidLength = codes "device path node has an invalid length"
node_conversion_error_text conversion.UnsupportedType = codes "unknown device path node type"
