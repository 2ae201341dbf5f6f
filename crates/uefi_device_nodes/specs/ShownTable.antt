-- Texts of the table contain no character that texts escape.
use Rattle.std.specs.Prelude.{ℕ, Bool, List, All}
use Rattle.uefi_text.specs.Packed.{IsByte}
use Rattle.uefi_device_nodes.specs.ShownFields.{IsShown}
use Rattle.uefi_device_nodes.specs.Table.{table_text}

-- no text of the table contains a character that texts escape
abbrev pub TableShown : Type 0
TableShown = (display_only : Bool) (kind sub_kind : ℕ) (content : List ℕ) → All IsByte content
    → IsShown (table_text display_only kind sub_kind content)
