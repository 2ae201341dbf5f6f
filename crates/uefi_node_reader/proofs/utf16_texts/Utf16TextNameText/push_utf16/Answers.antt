use Rattle.std.proofs.Common.{◌≡◌, ◌++◌, ◌∙◌, true, List, ℕ, ap, sym, rules}
use Rattle.std.specs.Char.{IsScalar}
use Rattle.std.specs.Char.Escape.{encode_utf16}
use Rattle.std.specs.Str.{is_utf8}
use Rattle.uefi_text.specs.UnitBytes.{unit_bytes}
use Rattle.uefi_node_reader.specs.CountedBytes.{pushed_bytes}
use Rattle.uefi_node_reader.proofs.CountedBytes.{pushed_bytes-append}
use Rattle.uefi_node_reader.proofs.Utf16Texts.{ascii_utf16, ascii_whole, bytes_of, next_shorter, utf16_bytes, utf16_more, utf16_none, utf8_more}
use Rattle.uefi_node_reader.proofs.utf16_texts.Utf16TextNameText.push_utf16.Goals as goal

pub returns-in-Some : goal.returns-in-Some
returns-in-Some c =
    let units = c.in-Some.units.now in
    let whole = ascii_whole (bytes_of c.args.self) units (bytes_of c.in-Some.field-0-1) c.in-Some.ensures.bytes (c.in-Some.ensures.len ∙ c.len.ensures) in
    c.push_units.ensures ∙ ap (pushed_bytes (c.args.places.now, c.args.len)) (sym (ap utf16_bytes whole ∙ ascii_utf16 units c.in-Some.ensures.ascii))

pub chars-smaller : goal.chars-smaller
chars-smaller c = next_shorter (bytes_of c.chars.rest) (bytes_of c.in-Some-next_char.after) c.in-Some-next_char.c c.in-Some-next_char.ensures

pub chars-preserved : goal.chars-preserved
chars-preserved c =
    let scalar : IsScalar c.in-Some-next_char.c = search rules in
    let valid : is_utf8 (bytes_of c.in-Some-next_char.after) ≡ true =
    sym (utf8_more c.in-Some-next_char.c (bytes_of c.in-Some-next_char.after) scalar) ∙ ap is_utf8 (sym c.in-Some-next_char.ensures) ∙ c.chars.invariant.0 in
    let more : utf16_bytes (bytes_of c.chars.rest) ≡ unit_bytes (encode_utf16 c.in-Some-next_char.c) ++ utf16_bytes (bytes_of c.in-Some-next_char.after) =
    ap utf16_bytes c.in-Some-next_char.ensures ∙ utf16_more c.in-Some-next_char.c (bytes_of c.in-Some-next_char.after) scalar valid in (
      valid,
      ap (λ (s : List ℕ × ℕ). pushed_bytes s (utf16_bytes (bytes_of c.in-Some-next_char.after))) c.push_char-count.ensures
          ∙ sym (pushed_bytes-append (c.chars.places, c.chars.count) (unit_bytes (encode_utf16 c.in-Some-next_char.c)) (utf16_bytes (bytes_of c.in-Some-next_char.after)))
          ∙ ap (pushed_bytes (c.chars.places, c.chars.count)) (sym more) ∙ c.chars.invariant.1,
    )

pub returns : goal.returns
returns c = sym (ap (pushed_bytes (c.chars.places, c.chars.count)) (utf16_none (bytes_of c.chars.rest) (c.in_default-next_char.ensures c.chars.invariant.0))) ∙ c.chars.invariant.1
