use Rattle.std.proofs.Common.{◌≡◌, ◌<◌, ℕ, drop, false, slice_index}
use Rattle.uefi_node_reader.specs.ShortAddresses.{ends_address}
use Rattle.uefi_node_reader.proofs.lenient.short_addresses.address_len.Given as goal

abbrev pub invariant-loop-place : goal.invariant-loop-place
invariant-loop-place g l =
    (g.T.Text.bytes l.rest ≡ drop l.place (g.T.Text.bytes l.fn.text))
    × ((k : ℕ) → k < l.place → ends_address (slice_index (g.T.Text.bytes l.fn.text) k) ≡ false)
