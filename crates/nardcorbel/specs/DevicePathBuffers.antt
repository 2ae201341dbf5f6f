-- What becomes of device paths and load options that C writes.
use Rattle.std.specs.Prelude.{ℕ, List, [], ◌∷◌}
use Rattle.uefi_device_path.specs.LoadOptions.{Entry, entry_bytes}
use Rattle.uefi_device_path.specs.Nodes.{Node}
use Rattle.uefi_device_path.specs.OptionBuilding.{fields_fault}
use Rattle.nardcorbel.specs.Outcomes.{Outcome, unless}
use Rattle.nardcorbel.specs.Outcomes.Outcome.{Content}
use Rattle.nardcorbel.specs.Refusals.{option_refused}

-- the load option of one device path
abbrev pub entry_of_path : ℕ → List ℕ → List Node → List ℕ → Entry
entry_of_path attributes description nodes optional = record {
  attributes = attributes;
  description = description;
  paths = nodes ∷ [];
  optional = optional;
}

-- a load option is written, unless a field of it can not be
abbrev pub written_entry : Entry → Outcome
written_entry entry = unless (fields_fault entry) option_refused (Content (entry_bytes entry))
