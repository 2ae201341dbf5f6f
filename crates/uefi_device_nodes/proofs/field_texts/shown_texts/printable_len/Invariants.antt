use Rattle.std.proofs.Common.{◌≡◌, ◌-◌, ◌≤◌, true, length, take}
use Rattle.std.specs.List.{list_all}
use Rattle.uefi_device_nodes.specs.ShownFields.{is_printable}
use Rattle.uefi_device_nodes.proofs.field_texts.shown_texts.printable_len.Given as goal

-- those so far are printable
abbrev pub invariant-loop-len : goal.invariant-loop-len
invariant-loop-len l = record { within : l.len ≤ length l.bytes; printable : list_all is_printable (take l.len l.bytes) ≡ true }

abbrev pub decreases-loop-len : goal.decreases-loop-len
decreases-loop-len l = length l.bytes - l.len
