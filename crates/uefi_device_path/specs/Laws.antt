-- The laws of device paths and load options, over the definitions that contracts of working calls cite.
use Rattle.std.specs.Prelude.{◌≡◌, ◌↔◌, ◌≢◌, ℕ, ◌+◌, ◌-◌, ◌<◌, ◌≤◌, length, Bool, true, false, List, [], ◌∷◌, ◌++◌, All, filter, fold, take, Result, Ok, Err}
use Rattle.std.specs.List.{flat_map}
use Rattle.uefi_path.specs.Components.{components_of}
use Rattle.uefi_path.specs.Laws.{IsRelative}
use Rattle.uefi_path.specs.Pushing.{pushed}
use Rattle.uefi_path.specs.Separators.{with_separators}
use Rattle.uefi_device_nodes.specs.FileNodes.{is_file}
use Rattle.uefi_device_nodes.specs.Nodes.{Node, IsInner, node_bytes}
use Rattle.uefi_device_nodes.specs.NodeTexts.{node_text}
use Rattle.uefi_device_nodes.specs.NodeFaults.{fault_place}
use Rattle.uefi_device_nodes.specs.declared.errors.NodeError.{NodeError}
use Rattle.uefi_device_nodes.specs.declared.errors.NodeError.TheVariants.{Missing, TruncatedHeader, UnknownEnd, LengthBelowHeader, EndWithData, BeyondEnd}
use Rattle.uefi_device_path.specs.Building.{grow_refusal, push_at_refusal, push_refusal, pushed_at}
use Rattle.uefi_device_path.specs.CheckedNodes.{path_of_bytes}
use Rattle.uefi_device_path.specs.AroundNodes.{is_mark, is_quoted, is_spaces, may_begin}
use Rattle.uefi_device_path.specs.StyledReading.{Reads, StopsBeingRead, path_read}
use Rattle.uefi_device_path.specs.PathReading.{AreTold, StopsAt}
use Rattle.uefi_text.specs.Packed.{IsByte}
use Rattle.uefi_text.specs.UnitTexts.{utf16_units}
use Rattle.uefi_device_nodes.specs.ShownFields.{IsShown}
use Rattle.uefi_device_path.specs.LibefivarTexts.{libefivar_node_text}
use Rattle.uefi_device_path.specs.PathTexts.{instance_text, libefivar_text, nodes_text, text_room}
use Rattle.uefi_device_path.specs.Paths.{BeginWithPath, path_bytes}
use Rattle.uefi_device_path.specs.Faults.{RefusedFor}
use Rattle.uefi_device_path.specs.FilePaths.{file_names, file_path, name_in}
use Rattle.uefi_device_path.specs.LoadOptions.{Entry, EntryRefusedFor, IsEntry, entry_bytes}
use Rattle.uefi_device_path.specs.declared.errors.DevicePathError.{DevicePathError}
use Rattle.uefi_device_path.specs.declared.errors.LoadOptionError.{LoadOptionError}
use Rattle.uefi_device_path.specs.declared.text.text_errors.TextFault.{TextFault}
use Rattle.uefi_node_reader.specs.declared.errors.faults.Expected.TheVariants.{AsPrinted}
use Rattle.uefi_node_reader.specs.declared.styles.TextStyle.{TextStyle}
use Rattle.uefi_node_reader.specs.declared.styles.TextStyle.TheVariants.{Printed, Lenient}
use Rattle.uefi_node_reader.specs.NamedFiles.{past_spaces}
use Rattle.uefi_node_reader.specs.TableReading.{is_empty}
use Rattle.uefi_node_reader.specs.Styles.{takes_printed}

-- bytes begin with one path at most
abbrev pub PathsOnce : Type 0
PathsOnce = (bytes : List ℕ) (nodes others : List Node)
    → BeginWithPath bytes nodes → BeginWithPath bytes others
    → nodes ≡ others

-- no two lists of nodes have the same bytes
abbrev pub BytesOnce : Type 0
BytesOnce = (nodes others : List Node) → All IsInner nodes → All IsInner others
    → path_bytes nodes ≡ path_bytes others → nodes ≡ others

-- what is built of nodes is read as these nodes
abbrev pub BuiltIsRead : Type 0
BuiltIsRead = (nodes : List Node) → All IsInner nodes → BeginWithPath (path_bytes nodes) nodes

-- a node at the end of the path that a buffer begins with is refused as by the path
abbrev pub PushedAtRefused : Type 0
PushedAtRefused = (bytes : List ℕ) (nodes : List Node) (node : Node) → BeginWithPath bytes nodes
    → push_at_refusal bytes (length (path_bytes nodes)) node
    ≡ grow_refusal (push_refusal nodes node (length bytes))

-- what is written there is the path of all nodes
abbrev pub PushedAtWritten : Type 0
PushedAtWritten = (bytes : List ℕ) (nodes : List Node) (node : Node) → BeginWithPath bytes nodes
    → pushed_at bytes (length (path_bytes nodes)) node ≡ path_bytes (nodes ++ node ∷ [])

-- what bytes are read as is the path that they begin with
abbrev pub PathsAreRead : Type 0
PathsAreRead = (bytes : List ℕ) (nodes : List Node) → All IsByte bytes
    → (path_of_bytes bytes ≡ Ok nodes) ↔ BeginWithPath bytes nodes

-- or why they are refused
abbrev pub RefusalsAreRead : Type 0
RefusalsAreRead = (bytes : List ℕ) (error : DevicePathError) → All IsByte bytes
    → (path_of_bytes bytes ≡ Err error) ↔ RefusedFor bytes error

-- the same from the path and from the refusal alone: their bytes need no range
abbrev pub BegunIsRead : Type 0
BegunIsRead = (bytes : List ℕ) (nodes : List Node) → BeginWithPath bytes nodes
    → path_of_bytes bytes ≡ Ok nodes

abbrev pub RefusedIsRead : Type 0
RefusedIsRead = (bytes : List ℕ) (error : DevicePathError) → RefusedFor bytes error
    → path_of_bytes bytes ≡ Err error

-- bytes that begin with a path do so whatever follows
abbrev pub AcceptedWithMore : Type 0
AcceptedWithMore = (bytes more : List ℕ) (nodes : List Node) → BeginWithPath bytes nodes
    → BeginWithPath (bytes ++ more) nodes

-- no bytes that begin with a path are refused
abbrev pub NeverBoth : Type 0
NeverBoth = (bytes : List ℕ) (nodes : List Node) (error : DevicePathError) → BeginWithPath bytes nodes
    → RefusedFor bytes error → ⊥

-- the header of a node decides these causes, and the length of all bytes the others
abbrev pub is_of_header : NodeError → Bool
is_of_header UnknownEnd = true
is_of_header LengthBelowHeader = true
is_of_header EndWithData = true
is_of_header Missing = false
is_of_header TruncatedHeader = false
is_of_header BeyondEnd = false

-- where the header of the node ends that is at fault
abbrev pub header_end : DevicePathError → ℕ
header_end error = error.offset - fault_place error.cause + 4

-- bytes that are refused for what a header says are refused for it whatever follows this header: so are all
-- that have the same bytes up to its end
abbrev pub RefusedByHeader : Type 0
RefusedByHeader = (bytes others : List ℕ) (error : DevicePathError) → is_of_header error.cause ≡ true
    → RefusedFor bytes error → take (header_end error) others ≡ take (header_end error) bytes
    → RefusedFor others error

-- no two load options have the same bytes
abbrev pub OptionsOnce : Type 0
OptionsOnce = (entry other : Entry) → IsEntry entry → IsEntry other
    → entry_bytes entry ≡ entry_bytes other → entry ≡ other

-- no bytes of a load option are refused
abbrev pub OptionsNeverBoth : Type 0
OptionsNeverBoth = (entry : Entry) (error : LoadOptionError) → IsEntry entry
    → EntryRefusedFor (entry_bytes entry) error → ⊥

-- a text is read in a style as these nodes if and only if it is their text in the style
abbrev pub ReadMeans : Type 0
ReadMeans = (style : TextStyle) (text : List ℕ) (nodes : List Node)
    → (path_read style text ≡ Ok nodes) ↔ Reads style text nodes

-- and it has this fault if and only if it stops being the text of nodes there
abbrev pub StopMeans : Type 0
StopMeans = (style : TextStyle) (text : List ℕ) (fault : TextFault)
    → (path_read style text ≡ Err fault) ↔ StopsBeingRead style text fault

-- the wrong byte does not stand before the node that it belongs to, nor after the end of the text
abbrev pub FaultsWithin : Type 0
FaultsWithin = (style : TextStyle) (text : List ℕ) (fault : TextFault) → path_read style text ≡ Err fault
    → (fault.node ≤ fault.byte) × (fault.byte ≤ length text)

-- the printed text of the nodes that were read tells all of them
abbrev pub ReadTold : Type 0
ReadTold = (style : TextStyle) (text : List ℕ) (nodes : List Node) → path_read style text ≡ Ok nodes
    → AreTold nodes

-- a printed text that tells all of its nodes is read in such a style as these nodes
abbrev pub PrintedIsRead : Type 0
PrintedIsRead = (style : TextStyle) (text : List ℕ) (nodes : List Node)
    → All (λ node. takes_printed style (node_text false false node) ≡ true) nodes
    → AreTold nodes → nodes_text false false nodes ≡ text → path_read style text ≡ Ok nodes

-- a fault where this many bytes stand before the text
abbrev pub fault_after : ℕ → TextFault → TextFault
fault_after count fault = record {
  node = fault.node + count;
  byte = fault.byte + count;
  expected = fault.expected;
}

-- what a text is read as where this many bytes stand before it
abbrev pub read_after : ℕ → Result (List Node) TextFault → Result (List Node) TextFault
read_after count (Ok nodes) = Ok nodes
read_after count (Err fault) = Err (fault_after count fault)

-- a text in quotation marks, with blanks around them, is read by people's rules as it is without them
abbrev pub QuotedIsRead : Type 0
QuotedIsRead = (mark : ℕ) (before text after : List ℕ) → is_mark mark ≡ true → is_spaces before ≡ true
    → is_spaces after ≡ true → is_empty (past_spaces text) ≡ false → is_quoted text ≡ false
    → path_read Lenient (before ++ (mark ∷ (text ++ (mark ∷ after))))
    ≡ read_after (length before + 1) (path_read Lenient text)

-- and so is a text after a slash, where a node may begin
abbrev pub SlashedIsRead : Type 0
SlashedIsRead = (before text : List ℕ) → is_spaces before ≡ true → may_begin (past_spaces text) ≡ true
    → is_quoted text ≡ false
    → path_read Lenient (before ++ (47 ∷ text)) ≡ read_after (length before + 1) (path_read Lenient text)

-- in the style of printed texts, a text is that of the nodes that are read
abbrev pub ReadIsPrinted : Type 0
ReadIsPrinted = (text : List ℕ) (nodes : List Node) → path_read Printed text ≡ Ok nodes
    → nodes_text false false nodes ≡ text

-- and where it is not read, it stops being that of such nodes
abbrev pub PrintedStops : Type 0
PrintedStops = (text : List ℕ) (fault : TextFault) → path_read Printed text ≡ Err fault
    → StopsAt text fault.node

-- the fault of a text that stops at this place: the exact printed form of a node must be there
abbrev pub printed_fault : ℕ → TextFault
printed_fault place = record { node = place; byte = place; expected = AsPrinted }

-- and where it stops being that of such nodes, it is not read
abbrev pub StopIsRead : Type 0
StopIsRead = (text : List ℕ) (place : ℕ) → StopsAt text place
    → path_read Printed text ≡ Err (printed_fault place)

-- no two lists of nodes of which the text tells all have the same text
abbrev pub TextsOnce : Type 0
TextsOnce = (nodes others : List Node) → AreTold nodes → AreTold others
    → nodes_text false false nodes ≡ nodes_text false false others → nodes ≡ others

-- a text stops at one place at most being that of nodes of which the text tells all
abbrev pub StopsOnce : Type 0
StopsOnce = (text : List ℕ) (place other : ℕ) → StopsAt text place → StopsAt text other → place ≡ other

-- no text of nodes of which the text tells all stops being one
abbrev pub TextsNeverBoth : Type 0
TextsNeverBoth = (nodes : List Node) (place : ℕ) → AreTold nodes
    → StopsAt (nodes_text false false nodes) place → ⊥

-- the file path of one node that names a file is its name, each slash replaced
abbrev pub OneName : Type 0
OneName = (node : Node) → is_file node ≡ true → file_path (node ∷ []) ≡ with_separators (name_in node.content)

-- nodes that name no file change nothing
abbrev pub OnlyFilesCount : Type 0
OnlyFilesCount = (nodes : List Node) → file_path nodes ≡ file_path (filter is_file nodes)

-- names that begin with no separator are pushed one after the other
abbrev pub RelativeNamesArePushed : Type 0
RelativeNamesArePushed = (nodes : List Node) → All IsRelative (file_names nodes)
    → file_path nodes ≡ fold pushed [] (file_names nodes)

-- the components are those of the names in a row, where none of these is empty
abbrev pub NamesInARow : Type 0
NamesInARow = (nodes : List Node)
    → All (λ name. All (λ component. component ≢ []) (components_of name)) (file_names nodes)
    → components_of (file_path nodes) ≡ flat_map components_of (file_names nodes)

-- no text of nodes holds a character that texts escape
abbrev pub PathsShown : Type 0
PathsShown = (display_only shortcuts : Bool) (nodes : List Node)
    → All (λ node. All IsByte node.content) nodes
    → IsShown (nodes_text display_only shortcuts nodes)

-- nor does one that libefivar prints
abbrev pub LibefivarShown : Type 0
LibefivarShown = (nodes : List Node) → All (λ node. All IsByte node.content) nodes
    → IsShown (libefivar_text nodes)

-- nor does one of an instance
abbrev pub InstancesShown : Type 0
InstancesShown = (display_only shortcuts : Bool) (nodes : List Node)
    → All (λ node. All IsByte node.content) nodes
    → IsShown (instance_text display_only shortcuts nodes)

-- the text of a path has fewer code units than the room that is chosen by the path's bytes
abbrev pub PathTextsFit : Type 0
PathTextsFit = (display_only shortcuts : Bool) (nodes : List Node) → All IsByte (path_bytes nodes)
    → length (utf16_units (nodes_text display_only shortcuts nodes)) < text_room (path_bytes nodes)

-- so has the text that libefivar prints of it
abbrev pub LibefivarTextsFit : Type 0
LibefivarTextsFit = (nodes : List Node) → All IsByte (path_bytes nodes)
    → length (utf16_units (libefivar_text nodes)) < text_room (path_bytes nodes)

-- the text of a node has fewer code units than the room that is chosen by the node's bytes
abbrev pub NodeTextsFit : Type 0
NodeTextsFit = (display_only shortcuts : Bool) (node : Node) → All IsByte (node_bytes node)
    → length (utf16_units (node_text display_only shortcuts node)) < text_room (node_bytes node)

-- so has the text that libefivar prints of it
abbrev pub LibefivarNodeTextsFit : Type 0
LibefivarNodeTextsFit = (node : Node) → All IsByte (node_bytes node)
    → length (utf16_units (libefivar_node_text node)) < text_room (node_bytes node)
