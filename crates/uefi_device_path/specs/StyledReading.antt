-- Device paths read from texts in a style.
use Rattle.std.specs.Prelude.{◌≡◌, ℕ, zero, suc, take, ◌+◌, ◌-◌, Bool, true, false, nat_lt, ◌==◌, ◌&&◌, if◌then◌else◌, List, [], ◌∷◌, ◌++◌, length, slice_index, codes, Option, Some, None, Result, Ok, Err, is_ok}
use Rattle.uefi_device_nodes.specs.Nodes.{Node}
use Rattle.uefi_device_path.specs.AroundNodes.{before_closing, first_place}
use Rattle.uefi_device_path.specs.PathReading.{end_instance, is_after_instance}
use Rattle.uefi_device_path.specs.declared.text.text_errors.PathTextError.{PathTextError}
use Rattle.uefi_device_path.specs.declared.text.text_errors.PathTextError.TheVariants.{NoNode, OutOfMemory}
use Rattle.uefi_device_path.specs.declared.text.text_errors.TextFault.{TextFault}
use Rattle.uefi_node_reader.specs.declared.errors.faults.Expected.{Expected}
use Rattle.uefi_node_reader.specs.declared.errors.faults.Expected.TheVariants as expected
use Rattle.uefi_node_reader.specs.declared.errors.faults.NodeFault.{NodeFault}
use Rattle.uefi_node_reader.specs.LenientNodes.{past_file_call}
use Rattle.uefi_node_reader.specs.Styles.{styled_read}
use Rattle.uefi_node_reader.specs.declared.styles.TextStyle.{TextStyle}

-- the test for a place after a comma: a file's name begins with a backslash there
abbrev pub follows_comma : List ℕ → List ℕ → Bool
follows_comma text place = nat_lt (length place) (length text)
    && (slice_index text (length text - length place - 1) == 44)

-- the node that is read at a place of a text, and what stands after it, or the fault of the place
abbrev pub place_read : TextStyle → List ℕ → List ℕ → Result (Node × List ℕ) NodeFault
place_read style text place = styled_read style (follows_comma text place) place

-- the fault of a text, by that of a place where no node is read
abbrev pub fault_from : List ℕ → List ℕ → NodeFault → TextFault
fault_from text place found = record {
  node = length text - length place;
  byte = (length text - length place) + found.byte;
  expected = found.expected;
}

-- a node, and those that are read then
abbrev pub more_nodes : Node → Result (List Node) TextFault → Result (List Node) TextFault
more_nodes node (Ok nodes) = Ok (node ∷ nodes)
more_nodes node (Err fault) = Err fault

-- the node that is read at a place, and those that are read after it
abbrev pub node_then : List ℕ → List ℕ → (List ℕ → Result (List Node) TextFault)
    → Result (Node × List ℕ) NodeFault → Result (List Node) TextFault
node_then text place next (Ok read) = more_nodes read.0 (next read.1)
node_then text place next (Err found) = Err (fault_from text place found)

-- the nodes of what is left of a text, where an instance begins or a slash stands, and fewer bytes than this
-- are left: a comma ends an instance
abbrev pub nodes_of_rest : TextStyle → List ℕ → ℕ → Bool → List ℕ → Result (List Node) TextFault
nodes_of_rest style text zero at_start rest = Ok []
nodes_of_rest style text (suc most) at_start [] = Ok []
nodes_of_rest style text (suc most) at_start (c ∷ cs) =
    if c == 44 then more_nodes end_instance (nodes_of_rest style text most true cs)
    else node_then text (if at_start then c ∷ cs else cs) (nodes_of_rest style text most false)
    (place_read style text (if at_start then c ∷ cs else cs))

-- the nodes that a text is read as in a style, or its fault: from the place of the first node up to the mark
-- that closes the text
unfoldable pub path_read : TextStyle → List ℕ → Result (List Node) TextFault
path_read style text =
    nodes_of_rest style (before_closing style text) (suc (length (first_place style text))) true
    (first_place style text)

-- the nodes of a text up to what is left of it, and whether an instance begins there
pub data ReadsTo (style : TextStyle) (text : List ℕ) : List Node → Bool → List ℕ → Type 0 where
  -- at the place of the first node
  Begins : ReadsTo style text [] true (first_place style text)
  -- a comma ends an instance
  Comma : (nodes : List Node) (at_start : Bool) (rest : List ℕ)
      → ReadsTo style text nodes at_start (44 ∷ rest)
      → ReadsTo style text (nodes ++ end_instance ∷ []) true rest
  -- one more node, after a slash where it is not the first of its instance
  OneMore : (nodes : List Node) (at_start : Bool) (node : Node) (place rest : List ℕ)
      → ReadsTo style text nodes at_start ((if at_start then [] else codes "/") ++ place)
      → place_read style (before_closing style text) place ≡ Ok (node, rest)
      → ReadsTo style text (nodes ++ node ∷ []) false rest

-- a text is that of these nodes to its end
abbrev pub Reads : TextStyle → List ℕ → List Node → Type 0
Reads style text nodes = (at_start : Bool) × ReadsTo style text nodes at_start []

-- after some nodes no node is read, and no instance ends, where this fault says that the next begins: the
-- fault of what is left of the text
pub record ReadingStops (style : TextStyle) (text : List ℕ) (fault : TextFault) (nodes : List Node)
    (at_start : Bool)
    (rest : List ℕ) : Type 0 where
  pub reads : ReadsTo style text nodes at_start ((if at_start then [] else codes "/") ++ rest)
  pub not_empty : at_start ≡ true → is_after_instance rest ≡ false
  pub found : NodeFault
  pub refused : place_read style (before_closing style text) rest ≡ Err found
  pub is : fault ≡ fault_from (before_closing style text) rest found

-- a text stops being that of nodes where this fault says
abbrev pub StopsBeingRead : TextStyle → List ℕ → TextFault → Type 0
StopsBeingRead style text fault = (nodes : List Node) × (at_start : Bool) × (rest : List ℕ)
    × ReadingStops style text fault nodes at_start rest

-- the result of putting the nodes of a text into a sink: what is true of the nodes and the result if the text
-- is read, or the text's fault
abbrev pub PutsText : {V : Type 0} → (List Node → V → Type 0) → Result V TextFault
    → Result (List Node) TextFault → Type 0
PutsText takes (Ok value) read = (nodes : List Node) × (read ≡ Ok nodes) × takes nodes value
PutsText takes (Err fault) read = read ≡ Err fault

-- the result is the path that a text is read as, or the text's fault; memory runs out only for a text
-- that is read
abbrev pub GivesText : Result (List Node) PathTextError → Result (List Node) TextFault → Type 0
GivesText (Ok path) read = read ≡ Ok path
GivesText (Err (NoNode fault)) read = read ≡ Err fault
GivesText (Err OutOfMemory) read = (nodes : List Node) × (read ≡ Ok nodes)

-- the test for a place where a node should end
abbrev pub is_end : Expected → Bool
is_end expected.End = true
is_end other = false

-- how many bytes of a text are the path that it begins with, by what the text is read as: all of them, or
-- those before a byte where a node should end, if they are read
abbrev pub extent_by : TextStyle → List ℕ → Result (List Node) TextFault → Result ℕ TextFault
extent_by style text (Ok nodes) = Ok (length text)
extent_by style text (Err fault) =
    if is_end fault.expected && is_ok (path_read style (take fault.byte text))
    then Ok fault.byte else Err fault

-- the same, given the rest of the text after the first `File(..)` after which no node may end: the path ends
-- there, if it is read
abbrev pub extent_before : TextStyle → List ℕ → Option (List ℕ) → Result ℕ TextFault
extent_before style text None = extent_by style text (path_read style text)
extent_before style text (Some rest) = if is_ok (path_read style (take (length text - length rest) text))
    then Ok (length text - length rest) else extent_by style text (path_read style text)

-- the number of bytes of the path at the start of a text, or why the text begins with none
unfoldable pub text_extent : TextStyle → List ℕ → Result ℕ TextFault
text_extent style text = extent_before style text (past_file_call text)
