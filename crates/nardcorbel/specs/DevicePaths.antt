-- What bytes show: a node of a device path, its text, and the parts of a load option.
use Rattle.std.specs.Prelude.{◌≡◌, ℕ, ◌+◌, ◌*◌, ◌/◌, ◌%◌, All, List, ◌++◌, ◌∷◌, length, slice_range, Result, Ok, Err}
use Rattle.std.specs.Result.{result_map_both}
use Rattle.uefi_device_path.specs.Nodes.{Node, node_bytes, node_with}
use Rattle.uefi_device_path.specs.FilePaths.{FileRefusedFor, IsReadable, file_path}
use Rattle.uefi_device_path.specs.LoadOptions.{Entry}
use Rattle.uefi_device_path.specs.declared.extent.PathExtent.{PathExtent}
use Rattle.uefi_device_path.specs.declared.extent.PathExtent.TheVariants.{Whole, Cut}
use Rattle.uefi_device_path.specs.PathLists.{list_bytes}
use Rattle.uefi_device_path.specs.Paths.{path_bytes}
use Rattle.uefi_device_path.specs.declared.errors.FilePathError.{FilePathError}
use Rattle.nardcorbel.specs.Outcomes.{Outcome, when_read}
use Rattle.nardcorbel.specs.Outcomes.Outcome.{Text}
use Rattle.nardcorbel.specs.Refusals.{nameless_refusal}
use Rattle.nardcorbel.specs.declared.device_paths.reading.DeviceNode.{DeviceNode}
use Rattle.nardcorbel.specs.declared.load_options.LoadOptionParts.{LoadOptionParts}

-- the node whose data stand in bytes from its start on
abbrev pub node_in : List ℕ → DeviceNode → Node
node_in bytes node =
    node_with (node.node_type / 256) (node.node_type % 256)
    (slice_range bytes node.data_offset (node.data_offset + node.data_size))

-- what is reported of how far bytes go from an offset on: where the next node begins, and how many bytes
-- there have to be
abbrev pub ShowsExtent : ℕ → PathExtent → ℕ → ℕ → Type 0
ShowsExtent start (Whole len) place needed = (place ≡ start) × (needed ≡ start + len)
ShowsExtent start (Cut cut) place needed = (place ≡ start + cut.passed) × (needed ≡ start + cut.needed)

-- bytes begin with the bytes of this node
abbrev pub BeginWithNode : List ℕ → Node → Type 0
BeginWithNode bytes node = (rest : List ℕ) × (bytes ≡ node_bytes node ++ rest)

-- nodes have this file path, or one of them that should name a file has no name
abbrev pub GivesFilePath : List Node → Result (List ℕ) FilePathError → Type 0
GivesFilePath nodes (Ok path) = All IsReadable nodes × (path ≡ file_path nodes)
GivesFilePath nodes (Err error) = FileRefusedFor nodes error

-- what becomes of it, in an encoding
abbrev pub file_outcome : (List ℕ → List ℕ) → Result (List ℕ) FilePathError → Outcome
file_outcome encode file =
    when_read (result_map_both (λ path. path) nameless_refusal file) (λ path. Text (encode path))

-- where the parts of a load option stand in its bytes, one after the other, and how long they are
pub record HasParts (entry : Entry) (parts : LoadOptionParts) : Type 0 where
  pub attributes : parts.attributes ≡ entry.attributes
  pub description_offset : parts.description_offset ≡ 6
  pub description_length : parts.description_length ≡ length entry.description
  pub path_list_offset : parts.path_list_offset ≡ 6 + 2 * (length entry.description + 1)
  pub path_list_size : parts.path_list_size ≡ length (list_bytes entry.paths)
  pub first_path_size : (first : List Node) (others : List (List Node)) → entry.paths ≡ first ∷ others
      → parts.first_path_size ≡ length (path_bytes first)
  pub optional_data_offset : parts.optional_data_offset ≡ parts.path_list_offset + parts.path_list_size
  pub optional_data_size : parts.optional_data_size ≡ length entry.optional
