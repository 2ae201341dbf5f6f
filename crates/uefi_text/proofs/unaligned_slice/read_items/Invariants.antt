use Rattle.std.proofs.Common.{◌≡◌, length, take, map}
use Rattle.uefi_text.specs.Packed.{packed_items}
use Rattle.uefi_text.proofs.unaligned_slice.read_items.Given as goal

-- the places so far hold the items so far
abbrev pub invariant-loop-place : goal.invariant-loop-place
invariant-loop-place g l =
    map g.T.Packed.number (take l.place l.dest) ≡ take l.place (packed_items g.T.Packed.SIZE (length l.initial.dest) l.bytes)
