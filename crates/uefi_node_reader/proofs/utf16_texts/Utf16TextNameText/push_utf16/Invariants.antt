use Rattle.std.proofs.Common.{◌≡◌, length, true}
use Rattle.std.specs.Str.{is_utf8}
use Rattle.uefi_node_reader.specs.CountedBytes.{pushed_bytes}
use Rattle.uefi_node_reader.proofs.Utf16Texts.{bytes_of, utf16_bytes}
use Rattle.uefi_node_reader.proofs.utf16_texts.Utf16TextNameText.push_utf16.Given as goal

abbrev pub invariant-chars : goal.invariant-chars
invariant-chars l =
    (is_utf8 (bytes_of l.rest) ≡ true)
    × (pushed_bytes (l.places, l.count) (utf16_bytes (bytes_of l.rest)) ≡ pushed_bytes (l.initial.places, l.len) (utf16_bytes (bytes_of l.self)))

abbrev pub decreases-chars : goal.decreases-chars
decreases-chars l = length (bytes_of l.rest)
