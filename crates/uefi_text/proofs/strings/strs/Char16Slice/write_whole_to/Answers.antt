-- The UTF-8 of characters is a Rust text.
use Rattle.std.proofs.Common.{refl, subst, sym}
use Rattle.std.specs.Str.{IsUtf8}
use Rattle.uefi_text.proofs.PrintedTexts.{scalars-characters}
use Rattle.uefi_text.proofs.Texts.{scalars-All}
use Rattle.uefi_text.proofs.strings.strs.Char16Slice.write_whole_to.Goals as goal

pub from_utf8_unchecked-requires : goal.from_utf8_unchecked-requires
from_utf8_unchecked-requires g c =
    let part = c.args.self.now in
    subst IsUtf8 (sym c.write_utf8-len.ensures.bytes)
    (part.units.now, (scalars-All part.units.now (scalars-characters part.units.now part.are_characters), refl))
