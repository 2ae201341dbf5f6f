-- What code remembers of a node that it read, and what a table needs so that this is enough.
use Rattle.std.specs.Prelude.{◌≡◌, ℕ, ◌+◌, ◌-◌, ◌^◌, min, nat_eq, nat_le, nat_lt, not, Bool, true, false, ◌==◌, ◌&&◌, ◌||◌, if◌then◌else◌, List, [], ◌∷◌, length, map, take, slice_index, Option, Some, None, Ok, Err}
use Rattle.std.specs.Cmp.Lexicographic.{pointwise}
use Rattle.std.specs.List.{list_all, list_any}
use Rattle.uefi_text.specs.Packed.{little_endian}
use Rattle.uefi_device_nodes.specs.FieldTexts.{eisa_bits}
use Rattle.uefi_node_steps.specs.Leaves.{Read, has_word}
use Rattle.uefi_node_steps.specs.Nodes.{Node, is_printed, node_of}
use Rattle.uefi_node_steps.specs.Printing.{is_laid_step}
use Rattle.uefi_node_steps.specs.Steps.{Parts, Step, blank, is_flat, part_of, put_parts, words_of}
use Rattle.uefi_node_steps.specs.Table.{Form, are_sound, form_leaf, further, is_exact, is_read, is_sound_form}
use Rattle.uefi_node_steps.specs.declared.steps.Encoding.TheVariants as encoding
use Rattle.uefi_node_steps.specs.declared.steps.Items.TheVariants.{Numbers, Ipv4 as Ipv4Items, Ipv6 as Ipv6Items}
use Rattle.uefi_node_steps.specs.declared.steps.Shape.{Shape}
use Rattle.uefi_node_steps.specs.declared.steps.Shape.TheVariants.{Eisa, Word as WordOf}
use Rattle.uefi_node_steps.specs.declared.steps.StepOf.TheVariants.{Literal, Field, Data, Many}
use Rattle.uefi_node_steps.specs.declared.steps.Stop.{Stop}

-- what a form reads at the start of a text, or nothing if the text stops
abbrev pub parts_read : Read Parts → Parts
parts_read (Ok read) = read.0
parts_read (Err stop) = ([], [])

abbrev pub is_parts : Read Parts → Bool
is_parts (Ok read) = true
is_parts (Err stop) = false

abbrev pub parts_at : Form → List ℕ → Parts
parts_at form text = parts_read ((form_leaf form).read text)

abbrev pub reads_at : Form → List ℕ → Bool
reads_at form text = is_parts ((form_leaf form).read text)

-- the node that a form reads there
abbrev pub node_at : Form → List ℕ → Node
node_at form text = node_of (form, parts_at form text)

-- whether a number is a byte
abbrev pub is_byte : ℕ → Bool
is_byte b = nat_lt b 256

-- what code knows of data: its first bytes, and how many bytes it has, as far as it counts them
pub record IsHead (content head : List ℕ) (len : ℕ) : Type 0 where
  pub long : length head ≡ 56
  pub kept : take len head ≡ take 56 content
  pub counted : len ≡ min (length content) (2 ^ 64 - 1)
  pub bytes : list_all is_byte content ≡ true

-- whether code finds out from the first 56 bytes of data, and from their number, if a form prints it
abbrev pub is_small : Form → Bool
is_small form = nat_le form.laid.size 56 && (nat_lt form.more (2 ^ 32)
    && list_all (λ b. nat_lt b.0 form.laid.size) form.when)

-- what it knows of a node that a form read at the start of a text
pub record IsFound (form : Form) (text : List ℕ) (head : List ℕ) (len : ℕ) : Type 0 where
  pub sound : is_sound_form form ≡ true
  pub small : is_small form ≡ true
  pub read : reads_at form text ≡ true
  pub size : length (parts_at form text).0 ≡ form.laid.size
  pub known : IsHead (node_at form text).content head len

-- the furthest of stops, if there are any before the last
abbrev pub further_of : Option Stop → Stop → Stop
further_of None other = other
further_of (Some stop) other = further stop other

-- whether a field is read back from its text, if it has bytes
abbrev pub is_told_value : Shape → List ℕ → Bool
is_told_value Eisa bytes = eisa_bits (little_endian bytes) == little_endian bytes
is_told_value (WordOf words) bytes = has_word (words_of words) (little_endian bytes)
is_told_value shape bytes = true

abbrev pub is_told_step : List ℕ → Step → Bool
is_told_step fixed (Field f) = is_told_value f.shape (part_of (fixed, []) (Field f))
is_told_step fixed step = true

-- a fixed part, given its fields
abbrev pub with_fields : List Step → List ℕ → List ℕ → List ℕ
with_fields steps fixed other = (put_parts steps (map (part_of (fixed, [])) steps) (other, [])).0

-- whether steps print the data after the fixed part
abbrev pub have_data : List Step → Bool
have_data steps = list_any (λ step. not (is_flat step)) steps

-- whether a form describes the fixed part of data, and has a step for the data after it
abbrev pub tells_head : Form → List ℕ → ℕ → Bool
tells_head form fixed len = is_exact form.mode && (list_all (is_told_step fixed) form.laid.steps
    && (pointwise nat_eq (with_fields form.laid.steps fixed (blank form.laid).0) fixed
    && (have_data form.laid.steps || (len == form.laid.size))))

-- a number for each encoding and each kind of list, and the letter that ends a text
abbrev pub number_of_data : Step → ℕ
number_of_data (Literal letters) = 0
number_of_data (Field f) = 0
number_of_data (Data encoding.Bytes) = 1
number_of_data (Data (encoding.Text stop)) = 2
number_of_data (Data (encoding.Utf16 stop)) = 3
number_of_data (Data (encoding.Name stop)) = 4
number_of_data (Data (encoding.NameAfterComma stop)) = 4
number_of_data (Data (encoding.Padded stop)) = 5
number_of_data (Data (encoding.Ids stop)) = 6
number_of_data (Many Numbers) = 7
number_of_data (Many Ipv4Items) = 8
number_of_data (Many Ipv6Items) = 9
number_of_data (Data (encoding.Uid stop)) = 10

-- the number of a step that describes the data which a step reads: the string of _UID alone is also read as
-- three
abbrev pub number_read : Step → ℕ
number_read (Data (encoding.Uid stop)) = 6
number_read step = number_of_data step

abbrev pub stop_of : Step → ℕ
stop_of (Data (encoding.Text stop)) = stop
stop_of (Data (encoding.Utf16 stop)) = stop
stop_of (Data (encoding.Name stop)) = stop
stop_of (Data (encoding.NameAfterComma stop)) = stop
stop_of (Data (encoding.Padded stop)) = stop
stop_of (Data (encoding.Ids stop)) = stop
stop_of (Data (encoding.Uid stop)) = stop
stop_of step = 0

-- whether the first step describes all data after a fixed part that the other reads
abbrev pub same_data : Step → Step → Bool
same_data one other = (number_of_data one == number_read other) && (stop_of one == stop_of other)

-- whether a step describes the data after the fixed part of each node that a form reads: as bytes, or as
-- the form does
abbrev pub describes : Form → ℕ → Step → Bool
describes form size step = nat_lt (number_of_data step) 2
    || ((form.laid.size == size) && list_any (same_data step) form.laid.steps)

abbrev pub agree : Form → Form → Bool
agree form other = not (is_exact other.mode) || list_all (describes form other.laid.size) other.laid.steps

-- whether no field contains this byte
abbrev pub is_free : ℕ → Step → Bool
is_free place (Field f) = nat_lt place f.place || nat_le (f.place + f.width) place
is_free place step = true

-- whether all nodes that a form reads have this byte, and whether they all have another
abbrev pub is_fixed : Form → ℕ → Bool
is_fixed form place = nat_lt place form.laid.size && list_all (is_free place) form.laid.steps

abbrev pub has_fixed : Form → ℕ × ℕ → Bool
has_fixed form b = is_fixed form b.0 && (slice_index (blank form.laid).0 b.0 == b.1)

abbrev pub lacks_fixed : Form → ℕ × ℕ → Bool
lacks_fixed form b = is_fixed form b.0 && not (slice_index (blank form.laid).0 b.0 == b.1)

-- whether a form prints nodes that another reads: perhaps some, and all of them
abbrev pub may_print : Form → Form → Bool
may_print form other = ((other.kind == form.kind) && ((other.sub_kind == form.sub_kind)
    && is_printed false other.mode)) && not (list_any (lacks_fixed form) other.when)

abbrev pub must_print : Form → Form → Bool
must_print form other = nat_le (other.laid.size + other.more) form.laid.size
    && list_all (has_fixed form) other.when

-- whether each form that prints a node that a form reads describes the data after the fixed part
abbrev pub agree_with : Form → List Form → Bool
agree_with form [] = true
agree_with form (other ∷ forms) = if may_print form other
    then (agree form other && (must_print form other || agree_with form forms))
    else agree_with form forms

abbrev pub all_agree : List Form → Bool
all_agree forms = list_all (λ form. not (is_read form.mode) || agree_with form forms) forms

-- whether code finds out which nodes of a table are told
abbrev pub can_tell : List Form → Bool
can_tell forms = are_sound forms && (list_all is_small forms && all_agree forms)

-- whether code prints a form, if it is printed
abbrev pub is_laid : Form → Bool
is_laid form = not (is_printed false form.mode) || list_all (is_laid_step form.laid.size) form.laid.steps
