-- No character decides exactly where no byte does, and of each character one byte is the first.
use Rattle.std.proofs.Common.{◌≡◌, ◌∙◌, ◌↔◌, None, ap, count_by, false, find, refl}
use Rattle.std.specs.Fmt.{is_char_start}
use Rattle.std.specs.List.{list_any}
use Rattle.std.specs.Str.{chars}
use Rattle.std.proofs.lemmas.Str.{scalars-chars}
use Rattle.uefi_text.specs.FromStr.{is_deciding_char}
use Rattle.uefi_text.specs.Scans.{is_deciding_byte}
use Rattle.uefi_text.proofs.Texts.{IsText-chars, SomeIff-same, undecided-IsText}
use Rattle.uefi_text.proofs.Utf8Bytes.{counted_chars, undecided_bytes}
use Rattle.uefi_text.proofs.encode.text_len.Goals as goal

pub returns-clause-undecided : goal.returns-clause-undecided
returns-clause-undecided c =
    let text = c.args.text.now in
    let same : (list_any is_deciding_byte c.as_bytes.result.now ≡ false) ↔ (find is_deciding_char (chars text) ≡ None) =
    rw c.as_bytes.ensures.value (undecided_bytes text c.utf8.text) in
    SomeIff-same c.count_undecided_chars.result _ _ same
    (ap (count_by is_char_start) c.as_bytes.ensures.value ∙ counted_chars text c.utf8.text) c.count_undecided_chars.ensures

pub returns-clause-text : goal.returns-clause-text
returns-clause-text c =
    let text = chars c.args.text.now in
    SomeIff-same c.count_undecided_chars.result _ _
    (IsText-chars text (scalars-chars c.args.text.now c.utf8.text), undecided-IsText text) refl (returns-clause-undecided c)
