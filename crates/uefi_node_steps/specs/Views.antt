-- What code reads, as a definition returns it.
use Rattle.std.specs.Prelude.{ℕ, List, [], ◌∷◌, ◌++◌, Option, Result, Ok}
use Rattle.std.specs.Result.{result_map_both}
use Rattle.uefi_node_steps.specs.Leaves.{ByteLeaf, Read, ◌>>=◌, expect, low_bytes}
use Rattle.uefi_node_steps.specs.Steps.{Parts, Step, put_part, step_leaf}
use Rattle.uefi_node_steps.specs.declared.steps.Expected.{Expected}
use Rattle.uefi_node_steps.specs.declared.steps.StepOf.TheVariants.{Literal, Field, Data, Many}
use Rattle.uefi_node_steps.specs.declared.steps.Items.{Items}
use Rattle.uefi_node_steps.specs.declared.steps.Stop.{Stop}

-- the rest of a text after an empty value
abbrev pub rest_of : {T : Type 0} → (T → List ℕ) → Result T Stop → Read (List ℕ)
rest_of codes result = result_map_both (λ rest. ([], codes rest)) (λ stop. stop) result

-- a value and the rest of the text
abbrev pub value_of : {V T : Type 0} → (T → List ℕ) → Result (V × T) Stop → Read V
value_of codes result = result_map_both (λ read. (read.0, codes read.1)) (λ stop. stop) result

-- the bytes that a buffer was filled with, and the rest of the text
abbrev pub filled_with : {V T : Type 0} → (T → List ℕ) → V → Result T Stop → Read V
filled_with codes found result = result_map_both (λ rest. (found, codes rest)) (λ stop. stop) result

-- the bytes of a number that was read
abbrev pub number_view : ℕ → Expected → List ℕ → Option (ℕ × List ℕ) → Read (List ℕ)
number_view width what text read = do
  n ← expect what text read
  Ok (low_bytes width n.0, n.1)

-- data with the value of a step
abbrev pub add_part : Step → List ℕ → Parts → Parts
add_part (Literal letters) bytes data_ = data_
add_part (Field f) bytes data_ = put_part (Field f) bytes data_
add_part (Data encoding) bytes data_ = (data_.0, data_.1 ++ bytes)
add_part (Many items) bytes data_ = (data_.0, data_.1 ++ bytes)

abbrev pub step_in : (Items → ByteLeaf) → Step → Parts → List ℕ → Read Parts
step_in lists step data_ text = do
  v ← (step_leaf lists step).read text
  Ok (add_part step v.0 data_, v.1)

abbrev pub steps_in : (Items → ByteLeaf) → List Step → Parts → List ℕ → Read Parts
steps_in lists [] data_ text = Ok (data_, text)
steps_in lists (step ∷ steps) data_ text = do
  read ← step_in lists step data_ text
  steps_in lists steps read.0 read.1

-- values before those that are read
abbrev pub after_these : {V : Type 0} → List V → Read (List V) → Read (List V)
after_these front read = do
  vs ← read
  Ok (front ++ vs.0, vs.1)
