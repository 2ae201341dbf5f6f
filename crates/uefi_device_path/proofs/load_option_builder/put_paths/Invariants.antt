use Rattle.std.proofs.Common.{◌≡◌, length, take}
use Rattle.uefi_device_path.proofs.OptionBytes.{front_bytes}
use Rattle.uefi_device_path.proofs.load_option_builder.put_paths.Given as goal

-- the device paths so far are written
abbrev pub invariant-loop-place : goal.invariant-loop-place
invariant-loop-place l = (l.start ≡ length (front_bytes l.paths l.place)) × (take l.start l.bytes ≡ front_bytes l.paths l.place)
