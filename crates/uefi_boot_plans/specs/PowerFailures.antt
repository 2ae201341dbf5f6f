-- What the variables hold if the power fails between two steps of a plan.
use Rattle.std.specs.Prelude.{◌≡◌, ◌≢◌, ℕ, ◌==◌, List, [], ◌∷◌, ◌++◌, ◌⊎◌, Option, None, Some, Bool, true, false, if◌then◌else◌}
use Rattle.uefi_boot_variables.specs.Orders.{stands_in, with_at, without}
use Rattle.uefi_boot_plans.specs.Plans.{Change, deleted, is_next, ordered, written}
use Rattle.uefi_boot_plans.specs.declared.plan.Variable.{Variable}
use Rattle.uefi_boot_plans.specs.declared.plan.Variable.TheVariants.{Entry, Next, Order, Timeout}
use Rattle.uefi_text.specs.UnitBytes.{units_of_bytes}

-- the value of each variable, if it is set
abbrev pub Values : Type 0
Values = Variable → Option (List ℕ)

-- the numbers in the value of an order, which has none if it is not set
abbrev pub numbers_of_value : Option (List ℕ) → List ℕ
numbers_of_value None = []
numbers_of_value (Some bytes) = units_of_bytes bytes

abbrev pub order_in : Values → List ℕ
order_in values = numbers_of_value (values Order)

-- the test that two variables are one
abbrev pub is_same : Variable → Variable → Bool
is_same (Entry a) (Entry b) = a == b
is_same Order Order = true
is_same Next Next = true
is_same Timeout Timeout = true
is_same _ _ = false

-- the values after a change
abbrev pub values_after : Change → Values → Values
values_after change values =
    λ variable. if is_same change.variable variable then change.value else values variable

-- a fact holds before the changes and after each of them, whenever the power fails
abbrev pub Throughout : (Values → Type 0) → List Change → Values → Type 0
Throughout Fact [] values = Fact values
Throughout Fact (change ∷ changes) values = Fact values × Throughout Fact changes (values_after change values)

-- each entry but one has its value of before, and is in the order if it was
abbrev pub KeepsOthers : ℕ → Values → Values → Type 0
KeepsOthers number before now = (other : ℕ) → other ≢ number
    → (now (Entry other) ≡ before (Entry other))
    × (stands_in other (order_in now) ≡ stands_in other (order_in before))

-- an order names a new entry only once that is there, at whichever index
abbrev pub CreationIsSafe : Type 0
CreationIsSafe = (index number : ℕ) (entry : List ℕ) (before : Values)
    → Throughout (λ now. KeepsOthers number before now
    × ((now Order ≡ before Order) ⊎ (now (Entry number) ≡ Some entry)))
    (written (Entry number) entry ∷ ordered (with_at index number (order_in before)) ∷ []) before

-- an entry is there as long as the order names it
abbrev pub DeletionIsSafe : Type 0
DeletionIsSafe = (number : ℕ) (next : Option ℕ) (before : Values)
    → Throughout (λ now. KeepsOthers number before now
    × (stands_in number (order_in now) ≡ true → now (Entry number) ≡ before (Entry number)))
    ((if stands_in number (order_in before) then ordered (without number (order_in before)) ∷ [] else [])
    ++ (if is_next number next then deleted Next ∷ [] else []) ++ (deleted (Entry number) ∷ [])) before

abbrev pub DeletionOnFullIsSafe : Type 0
DeletionOnFullIsSafe = (number : ℕ) (next : Option ℕ) (before : Values)
    → Throughout (KeepsOthers number before)
    ((if is_next number next then deleted Next ∷ [] else [])
    ++ (deleted (Entry number)
    ∷ (if stands_in number (order_in before) then ordered (without number (order_in before)) ∷ [] else [])))
    before

-- each entry stays, and the order is the old one or has the numbers of the plan
abbrev pub OrderIsSafe : Type 0
OrderIsSafe = (numbers : List ℕ) (before : Values)
    → Throughout (λ now. ((number : ℕ) → now (Entry number) ≡ before (Entry number))
    × ((now Order ≡ before Order) ⊎ (order_in now ≡ numbers)))
    (ordered numbers ∷ []) before

-- each entry stays, and the order keeps each other number
abbrev pub FirstIsSafe : Type 0
FirstIsSafe = (number : ℕ) (before : Values)
    → Throughout (λ now. KeepsOthers number before now × (now (Entry number) ≡ before (Entry number)))
    (ordered (with_at 0 number (order_in before)) ∷ []) before

-- the entry is the old one or the new one, and everything else stays
abbrev pub EditIsSafe : Type 0
EditIsSafe = (number : ℕ) (entry : List ℕ) (before : Values)
    → Throughout (λ now. KeepsOthers number before now × (now Order ≡ before Order)
    × ((now (Entry number) ≡ before (Entry number)) ⊎ (now (Entry number) ≡ Some entry)))
    (written (Entry number) entry ∷ []) before

-- a change of BootNext or Timeout leaves the entries and the order
abbrev pub OthersAreSafe : Type 0
OthersAreSafe = (variable : Variable) (value : Option (List ℕ)) (before : Values)
    → (is_same variable Next ≡ true) ⊎ (is_same variable Timeout ≡ true)
    → Throughout (λ now. ((number : ℕ) → now (Entry number) ≡ before (Entry number))
    × (now Order ≡ before Order))
    (record { variable = variable; value = value } ∷ []) before
