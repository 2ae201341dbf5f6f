-- What a change of the boot variables writes and deletes, and in which order.
use Rattle.std.specs.Prelude.{◌≡◌, ℕ, ◌+◌, ◌-◌, ◌%◌, ◌==◌, List, [], ◌∷◌, Option, None, Some, Bool, false, if◌then◌else◌, map, codes}
use Rattle.std.specs.Option.{option_map}
use Rattle.uefi_device_path.specs.ErrorTexts.{load_option_error_text}
use Rattle.uefi_device_path.specs.LoadOptions.{Entry, EntryRefusedFor, IsEntry, entry_bytes}
use Rattle.uefi_boot_plans.specs.declared.plan.PlanError.{PlanError}
use Rattle.uefi_boot_plans.specs.declared.plan.PlanError.TheVariants.{MalformedEntry, MalformedOrder, OutOfMemory}
use Rattle.uefi_boot_plans.specs.declared.plan.Step.{Step}
use Rattle.uefi_boot_plans.specs.declared.plan.Variable.{Variable}
use Rattle.uefi_boot_plans.specs.declared.plan.Variable.TheVariants.{Order}
use Rattle.uefi_text.specs.UnitBytes.{unit_bytes}

-- a variable, and the value that it is written with; without a value it is deleted
pub record Change : Type 0 where
  pub variable : Variable
  pub value : Option (List ℕ)

-- the change that writes a variable with these bytes
abbrev pub written : Variable → List ℕ → Change
written variable bytes = record { variable = variable; value = Some bytes }

-- the change that deletes a variable
abbrev pub deleted : Variable → Change
deleted variable = record { variable = variable; value = None }

-- what a step changes
abbrev pub change_of : {A : _} → Step A → Change
change_of step = record { variable = step.variable; value = option_map (λ bytes. bytes.items) step.value }

-- what the steps of a plan change, in order
abbrev pub changes_of : {A : _} → List (Step A) → List Change
changes_of steps = map change_of steps

-- an order that is written, or deleted if it has no numbers, as a variable without bytes is
abbrev pub ordered : List ℕ → Change
ordered [] = deleted Order
ordered (number ∷ numbers) = written Order (unit_bytes (number ∷ numbers))

-- attributes of a load option with the first bit, LOAD_OPTION_ACTIVE, set or not
abbrev pub activity : Bool → ℕ → ℕ
activity active attributes = attributes - attributes % 2 + (if active then 1 else 0)

-- why there is no plan for the bytes of an entry: they are no load option, or they are one and memory ran out
abbrev pub IsEntryError : List ℕ → PlanError → Type 0
IsEntryError bytes MalformedOrder = ⊥
IsEntryError bytes (MalformedEntry error) = EntryRefusedFor bytes error
IsEntryError bytes OutOfMemory = (option : Entry) × IsEntry option × (bytes ≡ entry_bytes option)

-- the text of an error
abbrev pub plan_error_text : PlanError → List ℕ
plan_error_text MalformedOrder = codes "BootOrder has an odd number of bytes"
plan_error_text (MalformedEntry error) = load_option_error_text error
plan_error_text OutOfMemory = codes "out of memory"

-- the test that BootNext names an entry
abbrev pub is_next : ℕ → Option ℕ → Bool
is_next number None = false
is_next number (Some next) = next == number
