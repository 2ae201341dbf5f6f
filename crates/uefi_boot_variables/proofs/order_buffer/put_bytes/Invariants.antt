use Rattle.std.proofs.Common.{◌≡◌, ◌*◌, ◌++◌, take, drop}
use Rattle.uefi_text.specs.UnitBytes.{unit_bytes}
use Rattle.uefi_boot_variables.proofs.order_buffer.put_bytes.Given as goal

-- the bytes of the numbers so far, and what stood after them
abbrev pub invariant-loop-place : goal.invariant-loop-place
invariant-loop-place l = l.dest ≡ unit_bytes (take l.place l.numbers) ++ drop (2 * l.place) l.fn.dest
