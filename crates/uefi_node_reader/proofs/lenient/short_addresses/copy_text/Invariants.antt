use Rattle.std.proofs.Common.{◌≡◌, ◌++◌, take}
use Rattle.uefi_node_reader.proofs.lenient.short_addresses.copy_text.Given as goal

-- the places so far and the rest are the text
abbrev pub invariant-loop-place : goal.invariant-loop-place
invariant-loop-place g l = take l.place l.places ++ g.T.Text.bytes l.rest ≡ g.T.Text.bytes l.fn.text
