use Rattle.std.proofs.Common.{◌≡◌, ◌≤◌, length}
use Rattle.uefi_device_path.proofs.OptionBytes.{front_bytes}
use Rattle.uefi_device_path.proofs.load_option_builder.list_length.Given as goal

-- the bytes of the device paths so far are counted, and the header can state them
abbrev pub invariant-loop-place : goal.invariant-loop-place
invariant-loop-place l = (l.len ≡ length (front_bytes l.paths l.place)) × (l.len ≤ 0xffff)
