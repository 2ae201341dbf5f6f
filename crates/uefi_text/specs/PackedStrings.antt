-- Units that lie at the front of bytes, up to and with a NUL.
use Rattle.std.specs.Prelude.{◌≡◌, ℕ, List, ◌++◌}
use Rattle.uefi_text.specs.UnitBytes.{unit_bytes}
use Rattle.uefi_text.specs.Units.{IsNulTerminated}

-- the bytes encode these units, whose only NUL is the last unit, and then `rest` follows
pub record SplitsUntilNul (bytes units rest : List ℕ) : Type 0 where
  pub ends : IsNulTerminated units
  pub join : bytes ≡ unit_bytes units ++ rest
