-- Load options with one field replaced.
use Rattle.std.specs.Prelude.{ℕ, List}
use Rattle.uefi_device_path.specs.LoadOptions.{Entry}

-- a load option with other attributes
abbrev pub with_attributes : ℕ → Entry → Entry
with_attributes attributes entry = record {
  attributes = attributes;
  description = entry.description;
  paths = entry.paths;
  optional = entry.optional;
}

-- a load option with another description
abbrev pub with_description : List ℕ → Entry → Entry
with_description description entry = record {
  attributes = entry.attributes;
  description = description;
  paths = entry.paths;
  optional = entry.optional;
}
