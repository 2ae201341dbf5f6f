-- How long the texts of nodes are.
use Rattle.std.specs.Prelude.{◌≡◌, ◌<◌, ℕ, ◌+◌, ◌*◌, Bool, true, max, nat_le, nat_lt, ◌&&◌, List, [], ◌∷◌, All, length}
use Rattle.std.specs.List.{list_all}
use Rattle.uefi_text.specs.Packed.{IsByte}
use Rattle.uefi_node_steps.specs.Leaves.{Word}
use Rattle.uefi_node_steps.specs.NodeForms.{node_forms}
use Rattle.uefi_node_steps.specs.Nodes.{Node, node_text}
use Rattle.uefi_node_steps.specs.Steps.{Laid, Step, fits_shape, words_of}
use Rattle.uefi_node_steps.specs.Table.{Form}
use Rattle.uefi_node_steps.specs.declared.steps.Encoding.TheVariants as encoding
use Rattle.uefi_node_steps.specs.declared.steps.Shape.{Shape}
use Rattle.uefi_node_steps.specs.declared.steps.Shape.TheVariants.{Hexadecimal, Marked, Decimal, OrDefault, Next, Forth, Back, BaseForth, BaseBack, Apart, Dashed, Guid, Ipv4, Ipv6, Eisa, Word as WordOf}
use Rattle.uefi_node_steps.specs.declared.steps.StepOf.TheVariants.{Literal, Field, Data, Many}

-- the length of the longest word
abbrev pub longest : List Word → ℕ
longest [] = 0
longest (word ∷ words) = max (length word.letters) (longest words)

-- the most letters that a field prints
abbrev pub most_of_shape : Shape → ℕ → ℕ
most_of_shape Hexadecimal width = 2 + 2 * width
most_of_shape Marked width = 2 + 2 * width
most_of_shape Decimal width = 3 * width
most_of_shape OrDefault width = max 7 (3 * width)
most_of_shape Next width = 3 + 2 * width
most_of_shape Forth width = 2 * width
most_of_shape Back width = 2 * width
most_of_shape BaseForth width = 2 + 2 * width
most_of_shape BaseBack width = 2 + 2 * width
most_of_shape (Apart letter) width = 3 * width
most_of_shape Dashed width = 3 * width
most_of_shape Guid width = 36
most_of_shape Ipv4 width = 15
most_of_shape Ipv6 width = 39
most_of_shape Eisa width = 7
most_of_shape (WordOf words) width = longest (words_of words)

-- the most letters that a step prints, beyond four for each byte after the fixed part
abbrev pub most_of_step : Step → ℕ
most_of_step (Literal letters) = length letters.now
most_of_step (Field f) = most_of_shape f.shape f.width
most_of_step (Data encoding.Bytes) = 1
most_of_step (Data (encoding.NameAfterComma stop)) = 1
most_of_step (Data (encoding.Ids stop)) = 3
most_of_step (Data (encoding.Uid stop)) = 1
most_of_step (Data encoding) = 0
most_of_step (Many items) = 0

abbrev pub most_of_steps : List Step → ℕ
most_of_steps [] = 0
most_of_steps (step ∷ steps) = most_of_step step + most_of_steps steps

-- how many steps print the data after the fixed part
abbrev pub tails : List Step → ℕ
tails [] = 0
tails (Literal letters ∷ steps) = tails steps
tails (Field f ∷ steps) = tails steps
tails (step ∷ steps) = 1 + tails steps

-- whether a field has a width that its shape can have
abbrev pub has_width : Step → Bool
has_width (Field f) = fits_shape f.shape f.width
has_width step = true

-- whether a form prints less than four letters for each byte of a node and its header
abbrev pub is_bounded : Laid → Bool
is_bounded laid = nat_lt (most_of_steps laid.steps) (4 * (laid.size + 4))
    && (nat_le (tails laid.steps) 1 && list_all has_width laid.steps)

-- a table of such forms does
abbrev pub TextsAreBounded : Type 0
TextsAreBounded = (forms : List Form) → list_all (λ form. is_bounded form.laid) forms ≡ true
    → (display_only : Bool) (node : Node) → All IsByte node.content
    → length (node_text display_only forms node) < 4 * (length node.content + 4)

-- the table is one
abbrev pub NodeTextsAreBounded : Type 0
NodeTextsAreBounded = (display_only : Bool) (node : Node) → All IsByte node.content
    → length (node_text display_only node_forms node) < 4 * (length node.content + 4)
