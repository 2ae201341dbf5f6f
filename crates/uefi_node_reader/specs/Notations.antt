-- The notations of forms: the rules for their literals and their fields.
use Rattle.std.specs.Prelude.{ℕ, List, [], ◌∷◌, Result, Ok}
use Rattle.std.specs.Option.{ok_or}
use Rattle.uefi_device_nodes.specs.Rows.{Form, Piece}
use Rattle.uefi_node_reader.specs.FieldReading.{field_read}
use Rattle.uefi_node_reader.specs.LenientFields.{after_ending, after_literal, expected_field, value_or_spare}
use Rattle.uefi_node_reader.specs.Stops.{◌>?◌, stop_at}
use Rattle.uefi_node_reader.specs.TableReading.{blank, put_at}
use Rattle.uefi_node_reader.specs.WordReading.{after}
use Rattle.uefi_node_reader.specs.declared.errors.faults.Stop.{Stop}

-- the rules for reading the start of a form, a field, and the literal after a field; each gives what is left
-- of the text, or an `E` if the text is not read
pub record Rules (E : Type 0) : Type 0 where
  pub literal : List ℕ → List ℕ → Result (List ℕ) E
  pub value : Piece → List ℕ → Result (List ℕ × List ℕ) E
  pub ending : List ℕ → List ℕ → Result (List ℕ) E

-- texts exactly as they are printed
abbrev pub exact : Rules (Unit {0})
exact = record {
  literal = λ literal text. ok_or (after literal text) tt;
  value = λ piece text. ok_or (field_read piece.shape piece.width text) tt;
  ending = λ literal text. ok_or (after literal text) tt;
}

-- texts as people write them
abbrev pub lenient : Rules Stop
lenient = record {
  literal = after_literal;
  value = λ piece text. ok_or (value_or_spare piece.shape piece.spare piece.width text)
      (stop_at text (expected_field piece.shape piece.width));
  ending = after_ending;
}

-- data with a field from a text, and the rest of the text after the field's ending
abbrev pub piece_in : {E : Type 0} → Rules E → Piece → List ℕ → List ℕ → Result (List ℕ × List ℕ) E
piece_in rules piece content text = rules.value piece text
    >? λ value. rules.ending piece.ending value.1
    >? λ rest. Ok (put_at piece value.0 content, rest)

-- the data with several fields from a text, and the rest of the text after their endings
abbrev pub pieces_in : {E : Type 0} → Rules E → List Piece → List ℕ → List ℕ → Result (List ℕ × List ℕ) E
pieces_in rules [] content text = Ok (content, text)
pieces_in rules (piece ∷ pieces) content text =
    piece_in rules piece content text >? λ read. pieces_in rules pieces read.0 read.1

-- the fixed part of a form's data with its first fields, and the rest of the text
abbrev pub head_in : {E : Type 0} → Rules E → Form → List ℕ → Result (List ℕ × List ℕ) E
head_in rules form text = rules.literal form.start text >? pieces_in rules form.pieces (blank form)
