-- A node that was read from a call: its first bytes, and the text that encodes the others.
use Rattle.std.specs.Prelude.{◌≡◌, ◌≤◌, ℕ, Bool, true, nat_le, is_some, if◌then◌else◌, List, [], ◌++◌, length, take, Option, Some, None}
use Rattle.uefi_node_reader.specs.FieldReading.{clear_run}
use Rattle.uefi_node_reader.specs.TableReading.{as_ids, first_of, tail_read}
use Rattle.uefi_device_nodes.specs.declared.node_table.rows.Tail.{Tail}

-- the data that was read, or none
abbrev pub read_data : Option (List ℕ × List ℕ) → List ℕ
read_data None = []
read_data (Some read) = read.0

-- the data at the start of a text, as a tail reads it, or as the string of `_UID`
abbrev pub decoded : Option Tail → List ℕ → List ℕ → List ℕ
decoded (Some tail) close text = read_data (tail_read tail close text)
decoded None close text = as_ids [] [] (clear_run (first_of close) text).0

-- whether a text begins with data
abbrev pub is_coded : Option Tail → List ℕ → List ℕ → Bool
is_coded (Some tail) close text = is_some (tail_read tail close text)
is_coded None close text = true

-- data that fits into a node, and the rest of the text
abbrev pub fitting : Option (List ℕ × List ℕ) → Option (List ℕ × List ℕ)
fitting None = None
fitting (Some read) = if nat_le (length read.0) 0xfffb then Some read else None

-- all data: the first of these bytes, and the data at the start of a text
abbrev pub all_data : List ℕ → ℕ → Option Tail → List ℕ → List ℕ → List ℕ
all_data head fixed tail close text = take fixed head ++ decoded tail close text

-- a node whose first bytes were decoded, at most 56, and whose others are counted
pub record IsDecoded (head : List ℕ) (fixed len : ℕ) (tail : Option Tail) (close text : List ℕ)
    : Type 0 where
  pub small : fixed ≤ 56
  pub coded : is_coded tail close text ≡ true
  pub counted : len ≡ length (all_data head fixed tail close text)
  pub shown : take len head ≡ take 56 (all_data head fixed tail close text)
  pub fits : len ≤ 0xfffb
