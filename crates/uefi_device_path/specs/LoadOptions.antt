-- Boot load options (UEFI Specification 2.10, section 3.1.3).
use Rattle.std.specs.Prelude.{◌≡◌, ◌≢◌, ◌↔◌, IfErr, IfOk, IsOk, Result, ℕ, ◌+◌, ◌-◌, ◌*◌, ◌/◌, ◌%◌, ◌<◌, ◌≤◌, List, [], ◌∷◌, ◌++◌, All, length, take, drop, slice_index}
use Rattle.std.specs.Char.Utf16.{utf16_lossy_chars}
use Rattle.std.specs.Str.{encode_utf8_all}
use Rattle.uefi_text.specs.Units.{nul_terminated, without_nul}
use Rattle.uefi_text.specs.UnitBytes.{unit_bytes}
use Rattle.uefi_device_nodes.specs.Nodes.{Node}
use Rattle.uefi_device_path.specs.PathLists.{ArePaths, ListRefusedFor, list_bytes, paths_in}
use Rattle.uefi_device_path.specs.declared.errors.DevicePathError.{DevicePathError}
use Rattle.uefi_device_path.specs.declared.errors.LoadOptionCause.{LoadOptionCause}
use Rattle.uefi_device_path.specs.declared.errors.LoadOptionCause.TheVariants.{TooShort, DescriptionWithoutEnd, ListBeyondEnd, EmptyList, FilePathList}
use Rattle.uefi_device_path.specs.declared.errors.LoadOptionError.{LoadOptionError}

-- the content of a load option: its attributes, the units of its description, its device paths, and
-- the optional data
pub record Entry : Type 0 where
  pub attributes : ℕ
  pub description : List ℕ
  pub paths : List (List Node)
  pub optional : List ℕ

-- what the parts of a load option say: its attributes, the units of its description and their NUL, the
-- bytes of its device paths, and the bytes after them
abbrev pub entry_with : ℕ → List ℕ → List ℕ → List ℕ → Entry
entry_with attributes units list optional = record {
  attributes = attributes;
  description = without_nul units;
  paths = paths_in list;
  optional = optional;
}

-- a load option has a description without NUL, and at least one device path
pub record IsEntry (entry : Entry) : Type 0 where
  pub no_nul : All (λ unit. unit ≢ 0) entry.description
  pub are_paths : ArePaths entry.paths
  pub some : entry.paths ≢ []

-- numbers of four and of two bytes, the low one first
abbrev pub four_bytes : ℕ → List ℕ
four_bytes n = n % 256 ∷ n / 256 % 256 ∷ n / 65536 % 256 ∷ n / 16777216 ∷ []

abbrev pub two_bytes : ℕ → List ℕ
two_bytes n = n % 256 ∷ n / 256 ∷ []

-- the bytes of a load option
abbrev pub entry_bytes : Entry → List ℕ
entry_bytes entry =
    four_bytes entry.attributes ++ (two_bytes (length (list_bytes entry.paths))
    ++ (unit_bytes (nul_terminated entry.description) ++ (list_bytes entry.paths ++ entry.optional)))

-- units in UTF-8: each pair of surrogates is one character, and U+FFFD stands for each surrogate
-- without a partner
abbrev pub lossy_utf8 : List ℕ → List ℕ
lossy_utf8 units = encode_utf8_all (utf16_lossy_chars units)

-- how many bytes the header gives the file path list
abbrev pub stated_list_length : List ℕ → ℕ
stated_list_length bytes = slice_index bytes 4 + 256 * slice_index bytes 5

-- after the header stand the description with its NUL, and then `rest`
pub record Describes (bytes description rest : List ℕ) : Type 0 where
  pub header : 6 ≤ length bytes
  pub no_nul : All (λ unit. unit ≢ 0) description
  pub join : drop 6 bytes ≡ unit_bytes (nul_terminated description) ++ rest

-- the file path list, which stands after the description, is refused for a node of it
pub record RefusesPaths (bytes description rest : List ℕ) (error inside : DevicePathError) : Type 0 where
  pub describes : Describes bytes description rest
  pub some : stated_list_length bytes ≢ 0
  pub fits : stated_list_length bytes ≤ length rest
  pub refused : ListRefusedFor (take (stated_list_length bytes) rest) inside
  pub cause : error.cause ≡ inside.cause
  pub offset : error.offset + length rest ≡ length bytes + inside.offset

-- what is wrong with bytes that are no load option, and where: each of these leaves out the others
abbrev pub IsWrong : List ℕ → LoadOptionCause → ℕ → Type 0
IsWrong bytes TooShort offset = (length bytes < 6) × (offset ≡ length bytes)
IsWrong bytes DescriptionWithoutEnd offset = (6 ≤ length bytes)
    × (offset ≡ length bytes - length bytes % 2)
    × ((description : List ℕ) (rest : List ℕ) → Describes bytes description rest → ⊥)
IsWrong bytes ListBeyondEnd offset = (description : List ℕ) × (rest : List ℕ)
    × Describes bytes description rest × (length rest < stated_list_length bytes) × (offset ≡ 4)
IsWrong bytes EmptyList offset = (description : List ℕ) × (rest : List ℕ)
    × Describes bytes description rest × (stated_list_length bytes ≡ 0)
    × (offset + length rest ≡ length bytes)
IsWrong bytes (FilePathList cause) offset = (description : List ℕ) × (rest : List ℕ)
    × (inside : DevicePathError)
    × RefusesPaths bytes description rest (record { cause = cause; offset = offset }) inside

-- the bytes are not a load option, for this error
abbrev pub EntryRefusedFor : List ℕ → LoadOptionError → Type 0
EntryRefusedFor bytes error = IsWrong bytes error.cause error.offset

-- the result of reading bytes as a load option: the only load option that they are, or the only
-- refusal
abbrev pub GivesOption : {O : Type 0} → (O → Entry) → List ℕ → Result O LoadOptionError → Type 0
GivesOption entry_of bytes result =
    IfOk result (λ option. IsEntry (entry_of option) × (bytes ≡ entry_bytes (entry_of option)))
    × IfOk result (λ option.
    (entry : Entry) → IsEntry entry → bytes ≡ entry_bytes entry → entry ≡ entry_of option)
    × (IsOk result ↔ ((entry : Entry) × IsEntry entry × (bytes ≡ entry_bytes entry)))
    × IfErr result (λ error. EntryRefusedFor bytes error)
    × IfErr result (λ error. (other : LoadOptionError) → EntryRefusedFor bytes other → other ≡ error)
