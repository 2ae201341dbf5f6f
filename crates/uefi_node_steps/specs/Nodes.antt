-- Nodes as the forms of a table print and read them.
use Rattle.std.specs.Prelude.{◌≡◌, ◌≤◌, ℕ, ◌+◌, Bool, true, false, nat_eq, nat_le, ◌==◌, ◌&&◌, if◌then◌else◌, List, [], ◌∷◌, ◌++◌, length, take, drop, slice_index, Option, Some, None, Result, Ok, Err}
use Rattle.std.specs.Cmp.Lexicographic.{pointwise}
use Rattle.std.specs.List.{list_all}
use Rattle.uefi_node_steps.specs.Leaves.{Read, ◌>>=◌, stop_at}
use Rattle.uefi_node_steps.specs.Steps.{Parts}
use Rattle.uefi_node_steps.specs.Table.{FitsForm, Form, all_differ, are_sound, form_leaf, forms_read, is_exact}
use Rattle.uefi_node_steps.specs.declared.steps.Expected.TheVariants as expected
use Rattle.uefi_node_steps.specs.declared.steps.Mode.{Mode}
use Rattle.uefi_node_steps.specs.declared.steps.Mode.TheVariants.{Read as ReadMode, Printed, Display, Libefivar, People}
use Rattle.uefi_node_steps.specs.declared.steps.Stop.{Stop}

-- a node: its type, its sub-type and its data
pub record Node : Type 0 where
  pub kind : ℕ
  pub sub_kind : ℕ
  pub content : List ℕ

-- the fixed part of a node's data in a form, and the data after it
abbrev pub parts_in : Form → List ℕ → Parts
parts_in form content = (take form.laid.size content, drop form.laid.size content)

-- the node of a form with this data
abbrev pub node_of : Form × Parts → Node
node_of x = record { kind = x.0.kind; sub_kind = x.0.sub_kind; content = x.1.0 ++ x.1.1 }

-- whether data contains these bytes
abbrev pub has_bytes : List (ℕ × ℕ) → List ℕ → Bool
has_bytes bytes content = list_all (λ b. slice_index content b.0 == b.1) bytes

-- whether a form is printed, perhaps only for display
abbrev pub is_printed : Bool → Mode → Bool
is_printed display_only ReadMode = true
is_printed display_only Printed = true
is_printed display_only Display = display_only
is_printed display_only Libefivar = false
is_printed display_only People = false

-- whether a form prints a node
abbrev pub prints : Bool → Node → Form → Bool
prints display_only node form = ((form.kind == node.kind) && ((form.sub_kind == node.sub_kind)
    && is_printed display_only form.mode))
    && (nat_le (form.laid.size + form.more) (length node.content) && has_bytes form.when node.content)

-- the first form that passes a test
abbrev pub find_form : (Form → Bool) → List Form → Option Form
find_form test [] = None
find_form test (form ∷ forms) = if test form then Some form else find_form test forms

-- the text of a node in a form, or an empty text if there is none
abbrev pub text_in : Option Form → List ℕ → List ℕ
text_in None content = []
text_in (Some form) content = (form_leaf form).text (parts_in form content)

-- the text of a node in its form of the table
abbrev pub node_text : Bool → List Form → Node → List ℕ
node_text display_only forms node = text_in (find_form (prints display_only node) forms) node.content

-- a node that its text describes completely
pub record IsToldNode (forms : List Form) (node : Node) : Type 0 where
  pub form : Form
  pub found : find_form (prints false node) forms ≡ Some form
  pub exact : is_exact form.mode ≡ true
  pub told : FitsForm form (parts_in form node.content)

-- whether data is what was read
abbrev pub is_back : Parts → Read Parts → Bool
is_back data_ (Err stop) = false
is_back data_ (Ok read) = pointwise nat_eq read.0.0 data_.0 && pointwise nat_eq read.0.1 data_.1

-- whether data is read back from its text in a form
abbrev pub tells : Option Form → List ℕ → Bool
tells None content = false
tells (Some form) content = is_exact form.mode
    && is_back (parts_in form content) ((form_leaf form).read ((form_leaf form).text
    (parts_in form content)))

-- a node that was read, if its text describes it completely
abbrev pub if_told : List Form → List ℕ → (Form × Parts) × List ℕ → Read Node
if_told forms text x = if tells (find_form (prints false (node_of x.0)) forms) (node_of x.0).content
    then Ok (node_of x.0, x.1) else Err (stop_at text expected.Untold)

-- the node at the start of a text as people write it
abbrev pub told_read : List Form → List ℕ → Read Node
told_read forms text = forms_read forms text >>= if_told forms text

-- what is left of a text after the letters that are printed, or where it differs from them
abbrev pub printed_read : List ℕ → List ℕ → Result (List ℕ) Stop
printed_read [] text = Ok text
printed_read (d ∷ ds) [] = Err (stop_at [] (expected.Letter d))
printed_read (d ∷ ds) (c ∷ cs) = if c == d then printed_read ds cs else Err (stop_at (c ∷ cs)
    (expected.Letter d))

-- what is left of a text after more letters
abbrev pub then_printed : Result (List ℕ) Stop → List ℕ → Result (List ℕ) Stop
then_printed left text = left >>= printed_read text

-- a node and what is left of a text
abbrev pub with_rest : Node → List ℕ → Read Node
with_rest node rest = Ok (node, rest)

-- a node that was read, if the text begins with the text that is printed for it
abbrev pub if_exact : List Form → List ℕ → Node × List ℕ → Read Node
if_exact forms text read = printed_read (node_text false forms read.0) text >>= with_rest read.0

-- the node at the start of a text that begins with the text printed for it
abbrev pub exact_read : List Form → List ℕ → Read Node
exact_read forms text = told_read forms text >>= if_exact forms text

-- the laws of a table
pub record ReadsNodes (forms : List Form) : Type 0 where
  pub again : (node : Node) (rest : List ℕ) → IsToldNode forms node
      → exact_read forms (node_text false forms node ++ rest) ≡ Ok (node, rest)
  pub takes : (text : List ℕ) (node : Node) (rest : List ℕ) → exact_read forms text ≡ Ok (node, rest)
      → text ≡ node_text false forms node ++ rest
  pub more : (text : List ℕ) (node : Node) (rest : List ℕ) → exact_read forms text ≡ Ok (node, rest)
      → told_read forms text ≡ Ok (node, rest)
  pub told : (text : List ℕ) (node : Node) (rest : List ℕ) → told_read forms text ≡ Ok (node, rest)
      → IsToldNode forms node × (length rest ≤ length text)
  pub stops : (text : List ℕ) (stop : Stop) → told_read forms text ≡ Err stop → stop.left ≤ length text

-- these laws hold of each table whose forms are sound and differ
abbrev pub TablesRead : Type 0
TablesRead = (forms : List Form) → are_sound forms ≡ true → all_differ forms ≡ true → ReadsNodes forms
