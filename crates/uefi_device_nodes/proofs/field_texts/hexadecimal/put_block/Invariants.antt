use Rattle.std.proofs.Common.{◌≡◌, ◌*◌, length, take}
use Rattle.uefi_device_nodes.specs.FieldTexts.{hex_bytes}
use Rattle.uefi_device_nodes.proofs.field_texts.hexadecimal.put_block.Given as goal

-- the digits of the bytes so far are written
abbrev pub invariant-loop-place : goal.invariant-loop-place
invariant-loop-place g l = record {
  long : length l.digits ≡ 64;
  so_far : take (2 * l.place) l.digits ≡ hex_bytes (take l.place l.bytes);
}
