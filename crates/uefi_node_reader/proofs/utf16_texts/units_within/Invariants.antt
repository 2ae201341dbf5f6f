use Rattle.std.proofs.Common.{◌≡◌, ◌+◌, ◌-◌, ◌≤◌, length}
use Rattle.uefi_node_reader.specs.Utf16Texts.{paired_chars, units_within}
use Rattle.uefi_node_reader.proofs.utf16_texts.units_within.Given as goal

abbrev pub invariant-chars : goal.invariant-chars
invariant-chars l =
    (length l.rest ≤ length l.units)
    × (units_within l.bytes (paired_chars l.units)
    ≡ length l.units - length l.rest + units_within l.left (paired_chars l.rest))

abbrev pub decreases-chars : goal.decreases-chars
decreases-chars l = length l.rest
