-- The parts of the packed table: texts, bytes and fields, by their numbers.
use Rattle.std.specs.Prelude.{ℕ, ◌+◌, ◌-◌, List, drop, slice_index, take}
use Rattle.uefi_device_nodes.specs.declared.node_table.packed.TheConstants.{BYTE_STARTS, BYTES, PIECE_STARTS}
use Rattle.uefi_device_nodes.specs.declared.node_table.packed.TheConstants.{PIECES, TEXT_STARTS, TEXTS}
use Rattle.uefi_device_nodes.specs.declared.node_table.parts.Bytes.{Bytes}
use Rattle.uefi_device_nodes.specs.declared.node_table.parts.Pieces.{Pieces}
use Rattle.uefi_device_nodes.specs.declared.node_table.parts.Text.{Text}
use Rattle.uefi_device_nodes.specs.declared.node_table.rows.PieceOf.{PieceOf}

-- the part with a number: from its start to the start of the next part
abbrev pub part_of : {X : Type 0} → List X → List ℕ → ℕ → List X
part_of items starts number =
    take (slice_index starts (number + 1) - slice_index starts number)
    (drop (slice_index starts number) items)

-- a packed text, unpacked
unfoldable pub packed_text : Text → List ℕ
packed_text t = part_of TEXTS TEXT_STARTS t.number

-- packed bytes, each with its offset and its value
unfoldable pub packed_bytes : Bytes → List (ℕ × ℕ)
packed_bytes b = part_of BYTES BYTE_STARTS b.number

-- packed fields
unfoldable pub packed_pieces : Pieces → List (PieceOf ℕ Text)
packed_pieces p = part_of PIECES PIECE_STARTS p.number
