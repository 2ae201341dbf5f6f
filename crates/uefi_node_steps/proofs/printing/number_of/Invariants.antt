use Rattle.std.proofs.Common.{◌≡◌, ◌-◌, ◌<◌, ◌^◌, length, drop}
use Rattle.uefi_text.specs.Packed.{little_endian}
use Rattle.uefi_node_steps.proofs.printing.number_of.Given as goal

abbrev pub invariant-loop-place : goal.invariant-loop-place
invariant-loop-place l = (l.number ≡ little_endian (drop (length l.bytes - l.place) l.bytes)) × (l.number < 256 ^ l.place)
