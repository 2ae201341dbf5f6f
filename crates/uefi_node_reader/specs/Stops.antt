-- Where a text stops being read, and readings that may stop.
use Rattle.std.specs.Prelude.{ℕ, nat_lt, if◌then◌else◌, List, drop, length, Option, Some, None, Result, Ok, Err}
use Rattle.std.specs.Option.{ok_or, option_map}
use Rattle.uefi_device_nodes.specs.declared.node_table.rows.Tail.{Tail}
use Rattle.uefi_device_nodes.specs.declared.node_table.rows.Tail.TheVariants.{Bytes, Repeated}
use Rattle.uefi_node_reader.specs.TableReading.{first_of, tail_read}
use Rattle.uefi_node_reader.specs.WordReading.{after}
use Rattle.uefi_node_reader.specs.declared.errors.faults.Expected.{Expected}
use Rattle.uefi_node_reader.specs.declared.errors.faults.Expected.TheVariants as expected
use Rattle.uefi_node_reader.specs.declared.errors.faults.Stop.{Stop}

-- where a text stops being read: how much of it is left, and what was expected there
abbrev pub stop_at : List ℕ → Expected → Stop
stop_at text what = record { left = length text; expected = what }

-- the next reading, if everything was read so far
infixl 10 ◌>?◌
abbrev pub ◌>?◌ : {A B E : Type 0} → Result A E → (A → Result B E) → Result B E
Err stop >? f = Err stop
Ok read >? f = f read

-- the stop with less text left, or the first if neither has less
abbrev pub further : Option Stop → Option Stop → Option Stop
further None other = other
further (Some stop) None = Some stop
further (Some stop) (Some other) = if nat_lt other.left stop.left then Some other else Some stop

-- the rest of the text after a value that was read
abbrev pub past : {A : Type 0} → Option (A × List ℕ) → Option (List ℕ)
past read = option_map (λ x. x.1) read

-- the rest of a text after a literal exactly as it is printed
abbrev pub exact_end : List ℕ → List ℕ → Result (List ℕ) Stop
exact_end literal text = ok_or (after literal text) (stop_at text (expected.Byte (first_of literal)))

-- where the data after the fields stops: in the first of its bytes, or at the start of a list
abbrev pub tail_stop : Tail → List ℕ → Stop
tail_stop Bytes text = stop_at (drop 1 text) (expected.Digits 2)
tail_stop tail text = stop_at text expected.AsPrinted

-- where the end of a text stops; if a list ends there, another item may follow as well
abbrev pub close_stop : Tail → List ℕ → List ℕ → Stop
close_stop (Repeated items) close text = stop_at text expected.AsPrinted
close_stop tail close text = stop_at text (expected.Byte (first_of close))

-- the rest of a text after the data that follows the fields, and after the end, or where the text stops
abbrev pub rest_end : Tail → List ℕ → List ℕ → Result (List ℕ) Stop
rest_end tail close text = ok_or (past (tail_read tail close text)) (tail_stop tail text)
    >? λ rest. ok_or (after close rest) (close_stop tail close rest)

-- where the text of a node stops; if all of it was read, it does not describe the node completely
abbrev pub stop_of : Result (List ℕ) Stop → Stop
stop_of (Err stop) = stop
stop_of (Ok rest) = stop_at rest expected.Untold
