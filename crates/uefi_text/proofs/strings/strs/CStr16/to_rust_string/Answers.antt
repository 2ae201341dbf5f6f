-- A text is one of characters, so its UTF-8 is that of a Rust text.
use Rattle.std.proofs.Common.{◌≡◌, arith, ap, ◌∙◌}
use Rattle.std.specs.Str.{chars, encode_utf8_all}
use Rattle.std.specs.String.{string_bytes}
use Rattle.std.proofs.lemmas.Str.{chars-encodes}
use Rattle.std.proofs.lemmas.Grind.{common_steps}
use Rattle.uefi_text.specs.Views.{text_of}
use Rattle.uefi_text.proofs.Texts.{scalars-IsText}
use Rattle.uefi_text.proofs.Values.{IsText-text_of}
use Rattle.uefi_text.proofs.strings.strs.CStr16.to_rust_string.Goals as goal

pub from_utf8_unchecked-requires : goal.from_utf8_unchecked-requires
from_utf8_unchecked-requires g c =
    let text = text_of c.args.self.now in
    let written : encode_utf8_all text ≡ c.add_utf8.new.bytes.items = grind (arith, common_steps) in
    (text, (scalars-IsText text (IsText-text_of c.args.self.now), written))

pub returns-clause-characters : goal.returns-clause-characters
returns-clause-characters g c =
    let text = text_of c.args.self.now in
    let written : string_bytes c.from_utf8_unchecked.result ≡ encode_utf8_all text = grind (arith, common_steps) in
    ap chars written ∙ chars-encodes text (scalars-IsText text (IsText-text_of c.args.self.now))
