-- The names that were found are counted, and stand at the end, joined, where they have room.
use Rattle.std.proofs.Common.{◌≡◌, ◌≤◌, ◌-◌, ℕ, List, drop, length}
use Rattle.uefi_path.specs.NamesLeft.{IsWalk, names_left}
use Rattle.uefi_path.proofs.KeptNames.{AreLast}
use Rattle.uefi_path.proofs.path_in_buf.write_names.Given as goal

abbrev pub invariant-loop-name : goal.invariant-loop-name
invariant-loop-name l =
    (last : List ℕ) × IsWalk l.names × AreLast (names_left l.fn.names) (names_left l.names) last
    × (l.len ≡ length last)
    × (l.len ≤ length l.fn.places → drop (length l.fn.places - l.len) l.places ≡ last)

abbrev pub decreases-loop-name : goal.decreases-loop-name
decreases-loop-name l = length (names_left l.names)
