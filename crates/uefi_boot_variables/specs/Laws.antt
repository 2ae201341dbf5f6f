-- The laws of names and orders.
use Rattle.std.specs.Prelude.{◌≡◌, ◌≢◌, ◌↔◌, ℕ, ◌<◌, ◌≤◌, ◌^◌, IsTrue, false, List, Contains, length, slice_index}
use Rattle.uefi_text.specs.Units.{IsText}
use Rattle.uefi_boot_variables.specs.Names.{name_text}
use Rattle.uefi_boot_variables.specs.Orders.{NoTwice, once_each, stands_in, with_at, without}
use Rattle.uefi_boot_variables.specs.declared.variable_names.LoadOptionName.{LoadOptionName}

-- names with one text are the same
abbrev pub NamesOnce : Type 0
NamesOnce = (a b : LoadOptionName) → a.number < 2 ^ 16 → b.number < 2 ^ 16 → name_text a ≡ name_text b → a ≡ b

-- a name is a text: neither a NUL nor a surrogate is in it
abbrev pub NamesAreTexts : Type 0
NamesAreTexts = (name : LoadOptionName) → name.number < 2 ^ 16 → IsText (name_text name)

-- the test whether a number stands in a list is that
abbrev pub StandsIsContains : Type 0
StandsIsContains = (number : ℕ) (numbers : List ℕ)
    → IsTrue (stands_in number numbers) ↔ Contains numbers number

-- a number that is taken out is gone
abbrev pub TakenOutIsGone : Type 0
TakenOutIsGone = (number : ℕ) (numbers : List ℕ) → stands_in number (without number numbers) ≡ false

-- and all others stay
abbrev pub OthersStay : Type 0
OthersStay = (other number : ℕ) (numbers : List ℕ) → other ≢ number
    → stands_in other (without number numbers) ≡ stands_in other numbers

-- the others keep their order where a number is put among them
abbrev pub OthersKeepOrder : Type 0
OthersKeepOrder = (place number : ℕ) (numbers : List ℕ)
    → without number (with_at place number numbers) ≡ without number numbers

-- a number that is put at a place stands there
abbrev pub PutWhereAsked : Type 0
PutWhereAsked = (place number : ℕ) (numbers : List ℕ) → place ≤ length (without number numbers)
    → slice_index (with_at place number numbers) place ≡ number

-- each number of a list stands in the list with each once
abbrev pub EachStands : Type 0
EachStands = (number : ℕ) (numbers : List ℕ) → stands_in number (once_each numbers) ≡ stands_in number numbers

-- and none stands there twice
abbrev pub EachOnce : Type 0
EachOnce = (numbers : List ℕ) → NoTwice (once_each numbers)

-- a list in which none stands twice stays as it is
abbrev pub OnceStays : Type 0
OnceStays = (numbers : List ℕ) → NoTwice numbers → once_each numbers ≡ numbers
