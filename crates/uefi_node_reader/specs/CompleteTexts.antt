-- Whether a node is completely described by its text, from what was read.
use Rattle.std.specs.Prelude.{ℕ, Bool, true, false, nat_eq, nat_le, ◌==◌, ◌&&◌, List, length, take, Option, Some, None}
use Rattle.std.specs.Cmp.Lexicographic.{pointwise}
use Rattle.uefi_device_nodes.specs.Rows.{Form, fields_of, find_form}
use Rattle.uefi_device_nodes.specs.Table.{forms}
use Rattle.uefi_device_nodes.specs.declared.node_table.rows.Items.{Items}
use Rattle.uefi_device_nodes.specs.declared.node_table.rows.Items.TheVariants.{Numbers, Ipv4, Ipv6}
use Rattle.uefi_device_nodes.specs.declared.node_table.rows.Tail.{Tail}
use Rattle.uefi_device_nodes.specs.declared.node_table.rows.Tail.TheVariants.{Nothing, Bytes, Text, Utf16, Name, Padded, Ids, Repeated}
use Rattle.uefi_device_nodes.specs.Nodes.{Node}
use Rattle.uefi_node_reader.specs.TableReading.{blank, first_of, is_exact, overlay, prints}

-- whether the data after the fields is a list of these items
abbrev pub are_items : Items → Tail → Bool
are_items Numbers (Repeated Numbers) = true
are_items Ipv4 (Repeated Ipv4) = true
are_items Ipv6 (Repeated Ipv6) = true
are_items items tail = false

-- whether two tails are texts of the same kind
abbrev pub are_texts : Tail → Tail → Bool
are_texts Text Text = true
are_texts Utf16 Utf16 = true
are_texts Name Name = true
are_texts Padded Padded = true
are_texts Ids Ids = true
are_texts one other = false

-- whether the text of a tail, with the end `close`, describes all data after a fixed part of `least` bytes;
-- the data has `len` bytes in all, and was read in the form `read`
abbrev pub tells_tail : Form → ℕ → Tail → List ℕ → ℕ → Bool
tells_tail read least Nothing close len = len == least
tells_tail read least Bytes close len = true
tells_tail read least (Repeated items) close len = are_items items read.tail && (read.least == least)
tells_tail read least tail close len =
    are_texts tail read.tail && ((read.least == least) && (first_of read.close == first_of close))

-- whether a fixed part is read back unchanged from its text in a form
abbrev pub tells_fixed : Form → List ℕ → Bool
tells_fixed form fixed = pointwise nat_eq (overlay (fields_of form) fixed (blank form)) fixed

-- whether data that was read in one form is completely described by its text in the other form
abbrev pub tells_data : Form → List ℕ → Option Form → Bool
tells_data read content None = false
tells_data read content (Some form) = is_exact form.mode && (tells_fixed form (take form.least content)
    && tells_tail read form.least form.tail form.close (length content))

-- whether a node that was read in a form is completely described by its text, in the form that prints it
unfoldable pub tells : Form → Node → Bool
tells read node = nat_le (length node.content) 0xfffb
    && tells_data read node.content (find_form (prints node) forms)
