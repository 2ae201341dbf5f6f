-- Addresses that are printed part by part.
use Rattle.std.proofs.Common.{◌≡◌, ℕ, List, [], ◌++◌, drop, refl}
use Rattle.std.proofs.lemmas.List.{append-nil, drop-drop}
use Rattle.std.specs.Prelude.{codes, slice_range}
use Rattle.uefi_text.specs.Packed.{little_endian}
use Rattle.uefi_device_nodes.specs.FieldTexts.{hex_bytes}
use Rattle.uefi_node_steps.specs.Leaves.{decimal, ipv4, ipv6}

abbrev octet : List ℕ → List ℕ
octet bytes = (decimal 256).text (little_endian bytes)

pub ipv4_text : (bytes : List ℕ)
    → octet (slice_range bytes 0 1) ++ ((codes "." ++ octet (slice_range bytes 1 2)) ++ ((codes "." ++ octet (slice_range bytes 2 3)) ++ (codes "." ++ octet (slice_range bytes 3 4))))
    ≡ ipv4.text bytes
ipv4_text bytes =
    let third : drop 1 (drop 1 bytes) ≡ drop 2 bytes = drop-drop 1 1 bytes in
    let fourth : drop 1 (drop 2 bytes) ≡ drop 3 bytes = drop-drop 1 2 bytes in
    let last : octet (slice_range bytes 3 4) ++ [] ≡ octet (slice_range bytes 3 4) = append-nil (octet (slice_range bytes 3 4)) in
    rw (← last, third, fourth) refl

pub ipv6_text : (bytes : List ℕ)
    → hex_bytes (slice_range bytes 0 2) ++ ((codes ":" ++ hex_bytes (slice_range bytes 2 4)) ++ ((codes ":" ++ hex_bytes (slice_range bytes 4 6)) ++ ((codes ":" ++ hex_bytes (slice_range bytes 6 8))
    ++ ((codes ":" ++ hex_bytes (slice_range bytes 8 10)) ++ ((codes ":" ++ hex_bytes (slice_range bytes 10 12)) ++ ((codes ":" ++ hex_bytes (slice_range bytes 12 14))
    ++ (codes ":" ++ hex_bytes (slice_range bytes 14 16)))))))) ≡ ipv6.text bytes
ipv6_text bytes =
    let third : drop 2 (drop 2 bytes) ≡ drop 4 bytes = drop-drop 2 2 bytes in
    let fourth : drop 2 (drop 4 bytes) ≡ drop 6 bytes = drop-drop 2 4 bytes in
    let fifth : drop 2 (drop 6 bytes) ≡ drop 8 bytes = drop-drop 2 6 bytes in
    let sixth : drop 2 (drop 8 bytes) ≡ drop 10 bytes = drop-drop 2 8 bytes in
    let seventh : drop 2 (drop 10 bytes) ≡ drop 12 bytes = drop-drop 2 10 bytes in
    let eighth : drop 2 (drop 12 bytes) ≡ drop 14 bytes = drop-drop 2 12 bytes in
    let last : hex_bytes (slice_range bytes 14 16) ++ [] ≡ hex_bytes (slice_range bytes 14 16) = append-nil (hex_bytes (slice_range bytes 14 16)) in
    rw (← last, third, fourth, fifth, sixth, seventh, eighth) refl
