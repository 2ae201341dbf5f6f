-- What is well in bytes that are no load option.
use Rattle.std.specs.Prelude.{◌≡◌, ℕ, List, [], take, Option, None, Some}
use Rattle.std.specs.Int.{from_le_bytes, w32}
use Rattle.uefi_device_nodes.specs.Nodes.{Node}
use Rattle.uefi_device_path.specs.LoadOptions.{Describes, stated_list_length}
use Rattle.uefi_device_path.specs.PathLists.{BreaksAfter}
use Rattle.uefi_device_path.specs.declared.errors.LoadOptionCause.{LoadOptionCause}
use Rattle.uefi_device_path.specs.declared.errors.LoadOptionCause.TheVariants.{TooShort, DescriptionWithoutEnd, ListBeyondEnd, EmptyList, FilePathList}
use Rattle.uefi_device_path.specs.declared.errors.LoadOptionError.{LoadOptionError}

-- the parts before the first fault: the attributes, the units of the description, the whole device paths, and
-- the nodes of the one in which the fault is; and the fault
pub record Parts : Type 0 where
  pub attributes : Option ℕ
  pub description : Option (List ℕ)
  pub paths : List (List Node)
  pub nodes : List Node
  pub error : LoadOptionError

-- the parts of these
abbrev pub parts_with : Option ℕ → Option (List ℕ) → List (List Node) → List Node → LoadOptionError → Parts
parts_with attributes description paths nodes error = record {
  attributes = attributes;
  description = description;
  paths = paths;
  nodes = nodes;
  error = error;
}

-- the attributes that the header of bytes states
abbrev pub stated_attributes : List ℕ → ℕ
stated_attributes bytes = from_le_bytes w32 (take 4 bytes)

-- the attributes and the description are well, and then stands `rest`
pub record HasHead (bytes : List ℕ) (parts : Parts) (description rest : List ℕ) : Type 0 where
  pub attributes : parts.attributes ≡ Some (stated_attributes bytes)
  pub described : parts.description ≡ Some description
  pub describes : Describes bytes description rest

-- no device path is well, and no node
pub record HasNoPaths (parts : Parts) : Type 0 where
  pub paths : parts.paths ≡ []
  pub nodes : parts.nodes ≡ []

-- the parts are what is well in bytes before a fault of this cause
abbrev pub AreWellBefore : List ℕ → Parts → LoadOptionCause → Type 0
AreWellBefore bytes parts TooShort =
    (parts.attributes ≡ None) × (parts.description ≡ None) × HasNoPaths parts
AreWellBefore bytes parts DescriptionWithoutEnd =
    (parts.attributes ≡ Some (stated_attributes bytes)) × (parts.description ≡ None) × HasNoPaths parts
AreWellBefore bytes parts ListBeyondEnd =
    (description : List ℕ) × (rest : List ℕ) × HasHead bytes parts description rest × HasNoPaths parts
AreWellBefore bytes parts EmptyList =
    (description : List ℕ) × (rest : List ℕ) × HasHead bytes parts description rest × HasNoPaths parts
AreWellBefore bytes parts (FilePathList cause) =
    (description : List ℕ) × (rest : List ℕ) × HasHead bytes parts description rest
    × BreaksAfter (take (stated_list_length bytes) rest) parts.paths parts.nodes cause

-- the parts are the well-formed parts of bytes before their first fault
abbrev pub AreWell : List ℕ → Parts → Type 0
AreWell bytes parts = AreWellBefore bytes parts parts.error.cause
