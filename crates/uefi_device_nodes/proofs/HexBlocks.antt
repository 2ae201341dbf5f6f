-- The digits of a block of bytes.
use Rattle.std.proofs.Common.{◌≡◌, ◌∙◌, ap, sym, suc, ℕ, ◌+◌, ◌*◌, ◌-◌, ◌/◌, ◌%◌, ◌<◌, true, List, [], ◌∷◌, ◌++◌, length, take, drop, get_or, set, arith}
use Rattle.std.specs.Fmt.{digit_glyph}
use Rattle.std.specs.Str.{IsUtf8}
use Rattle.std.proofs.lemmas.Grind.{common_steps}
use Rattle.uefi_text.proofs.UnitBytes.{set_two}
use Rattle.uefi_device_nodes.specs.FieldTexts.{hex_bytes, hex_two}
use Rattle.uefi_device_nodes.proofs.GuidTexts.{two_digits}
use Rattle.uefi_device_nodes.proofs.HexBack.{byte_more}
use Rattle.uefi_device_nodes.proofs.ShownFields.{bytes_shown, shown_utf8}

-- they are a Rust text
pub bytes_utf8 : (bytes : List ℕ) → IsUtf8 (hex_bytes bytes)
bytes_utf8 bytes = shown_utf8 (hex_bytes bytes) (bytes_shown bytes).0

-- those of one byte more are written
pub byte_written : (bytes digits : List ℕ) (i : ℕ) → i < length bytes → get_or bytes i 0 < 256 → 2 * i + 1 < length digits
    → take (2 * i) digits ≡ hex_bytes (take i bytes)
    → take (2 * (i + 1)) (set (set digits (2 * i) (digit_glyph true (get_or bytes i 0 / 16))) (2 * i + 1) (digit_glyph true (get_or bytes i 0 % 16)))
    ≡ hex_bytes (take (i + 1) bytes)
unfolding hex_bytes
byte_written bytes digits i within small room so_far =
    let byte = get_or bytes i 0 in
    let high = digit_glyph true (byte / 16) in
    let low = digit_glyph true (byte % 16) in
    let next : 2 * i + 1 ≡ suc (2 * i) = omega arith in
    let made = set_two digits (2 * i) high low (omega (arith, room)) in
    let front : take (2 * (i + 1)) (take (2 * i) digits ++ high ∷ low ∷ drop (suc (suc (2 * i))) digits) ≡ take (2 * i) digits ++ high ∷ low ∷ [] =
    grind (arith, common_steps) in
    ap (λ (k : ℕ). take (2 * (i + 1)) (set (set digits (2 * i) high) k low)) next
    ∙ ap (λ (xs : List ℕ). take (2 * (i + 1)) xs) made ∙ front
    ∙ ap (λ (xs : List ℕ). xs ++ high ∷ low ∷ []) so_far
    ∙ ap (λ (xs : List ℕ). hex_bytes (take i bytes) ++ xs) (sym (two_digits byte small))
    ∙ byte_more hex_two [] bytes i within
