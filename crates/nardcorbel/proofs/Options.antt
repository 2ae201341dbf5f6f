-- The parts of a load option lie within its bytes.
use Rattle.std.proofs.Common.{◌≡◌, ℕ, List, [], ◌∷◌, ◌+◌, ◌*◌, ◌^◌, ◌-◌, ◌<◌, ap, arith, length}
use Rattle.std.proofs.lemmas.List.{length-append}
use Rattle.uefi_text.specs.Units.{nul_terminated}
use Rattle.uefi_device_path.proofs.OptionBytes.{long-entry_bytes}
use Rattle.uefi_device_path.specs.LoadOptions.{Entry, entry_bytes}
use Rattle.uefi_device_path.specs.PathLists.{list_bytes}

-- no part ends beyond the end
pub parts_fit : (entry : Entry) (units list : List ℕ) → length (entry_bytes entry) < 2 ^ 64
    → units ≡ nul_terminated entry.description → list ≡ list_bytes entry.paths
    → 6 + 2 * (length units - 1 + 1) + length list < 2 ^ 64
parts_fit entry units list fits is_description is_list =
    omega (
      arith,
      fits,
      long-entry_bytes entry,
      length-append entry.description (0 ∷ []),
      ap length is_description,
      ap length is_list,
    )
