use Rattle.std.proofs.Common.{◌≡◌, length, reverse, take}
use Rattle.uefi_device_nodes.proofs.field_texts.hexadecimal.put_block_back.Given as goal

-- the last bytes were copied, as many as were seen
abbrev pub invariant-loop-place : goal.invariant-loop-place
invariant-loop-place g l = record {
  long : length l.turned ≡ 32;
  so_far : take l.place l.turned ≡ take l.place (reverse l.bytes);
}
