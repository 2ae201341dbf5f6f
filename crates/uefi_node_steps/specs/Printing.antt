-- The texts of steps, as code prints them.
use Rattle.std.specs.Prelude.{ℕ, ◌+◌, Bool, true, false, nat_le, ◌&&◌, List, [], ◌++◌, map}
use Rattle.std.specs.Borrow.{Bor}
use Rattle.std.specs.List.{flat_map}
use Rattle.uefi_node_steps.specs.Leaves.{ByteLeaf}
use Rattle.uefi_node_steps.specs.Steps.{Parts, Step, fits_shape, is_flat, no_list, part_of, step_leaf}
use Rattle.uefi_node_steps.specs.Table.{Form}
use Rattle.uefi_node_steps.specs.declared.steps.FormOf.{FormOf}
use Rattle.uefi_node_steps.specs.declared.steps.Items.{Items}
use Rattle.uefi_node_steps.specs.declared.steps.Shape.{Shape}
use Rattle.uefi_node_steps.specs.declared.steps.Shape.TheVariants.{Apart}
use Rattle.uefi_node_steps.specs.declared.steps.StepOf.{StepOf}
use Rattle.uefi_node_steps.specs.declared.steps.StepOf.TheVariants.{Literal, Field, Data, Many}

-- a step of code, given its letters
abbrev pub step_by : {L : Type 0} → (L → List ℕ) → StepOf L → Step
step_by now (Literal letters) = Literal (record { now = now letters })
step_by now (Field f) = Field f
step_by now (Data encoding) = Data encoding
step_by now (Many items) = Many items

-- a form of code, given its steps and its bytes
abbrev pub form_by : {S B : Type 0} → (S → List Step) → (B → List (ℕ × ℕ)) → FormOf S B → Form
form_by steps bytes form = record {
  kind = form.kind;
  sub_kind = form.sub_kind;
  mode = form.mode;
  more = form.more;
  when = bytes form.when;
  laid = record {
    size = form.layout.size;
    bytes = bytes form.when ++ bytes form.layout.bytes;
    steps = steps form.layout.steps;
  };
}

-- a step and a form, as code sees them
abbrev pub code_step : StepOf (Bor (List ℕ)) → Step
code_step step = step_by (λ (l : Bor (List ℕ)). l.now) step

abbrev pub code_steps : List (StepOf (Bor (List ℕ))) → List Step
code_steps steps = map code_step steps

abbrev pub code_form : FormOf (Bor (List (StepOf (Bor (List ℕ))))) (Bor (List (ℕ × ℕ))) → Form
code_form form = form_by (λ (s : Bor (List (StepOf (Bor (List ℕ))))). code_steps s.now)
    (λ (b : Bor (List (ℕ × ℕ))). b.now) form

-- the text of a step of data, given that of the lists
abbrev pub step_text : (Items → ByteLeaf) → Parts → Step → List ℕ
step_text lists data_ step = (step_leaf lists step).text (part_of data_ step)

-- the text of steps
abbrev pub steps_text : (Items → ByteLeaf) → Parts → List Step → List ℕ
steps_text lists data_ steps = flat_map (step_text lists data_) steps

-- whether values of a shape are printed
abbrev pub is_printed_shape : Shape → Bool
is_printed_shape (Apart letter) = false
is_printed_shape shape = true

-- whether a step prints bytes of a fixed part of `size` bytes
abbrev pub is_laid_step : ℕ → Step → Bool
is_laid_step size (Field f) = nat_le (f.place + f.width) size && (fits_shape f.shape f.width
    && is_printed_shape f.shape)
is_laid_step size step = true

-- whether a step of an item does
abbrev pub is_item_step : ℕ → Step → Bool
is_item_step size step = is_laid_step size step && is_flat step

-- the texts of items
abbrev pub items_text : List Step → List (List ℕ) → List ℕ
items_text steps items = flat_map (λ item. steps_text no_list (item, []) steps) items
