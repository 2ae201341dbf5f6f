-- What is written is all that stands from the place on.
use Rattle.std.proofs.Common.{◌≡◌, ◌∙◌, ℕ, ◌+◌, ap, List, [], length, drop, arith}
use Rattle.std.specs.Str.{chars}
use Rattle.std.proofs.lemmas.Grind.{common_steps}
use Rattle.std.proofs.lemmas.List.{length-append, length-drop}
use Rattle.uefi_text.specs.Units.{IsText, nul_terminated}
use Rattle.uefi_text.specs.FromStrWithBuf.{with_text, with_units}
use Rattle.uefi_text.proofs.Texts.{undecided-IsText}
use Rattle.uefi_text.proofs.Utf16.{utf16-undecided}
use Rattle.uefi_text.proofs.strings.owned_strs.write_text_from.Goals as goal

-- a text and its NUL that fill a buffer are all of it
with_text-all : (cs old : List ℕ) → IsText cs → length cs + 1 ≡ length old → with_text cs old ≡ nul_terminated cs
with_text-all cs old is_text long =
    let same = utf16-undecided cs (undecided-IsText cs is_text) in
    let filled : length (nul_terminated cs) ≡ length old = omega (arith, length-append cs (nul_terminated [])) in
    let all : with_units (nul_terminated cs) old ≡ nul_terminated cs = grind (arith, common_steps) in
    ap (λ us. with_units (nul_terminated us) old) same ∙ all

pub returns : goal.returns
returns c =
    let cs = chars c.args.text.now in
    let rest = drop c.args.start c.args.units.now in
    let long : length cs + 1 ≡ length rest = omega (arith, c.requires.fits, length-drop c.args.start c.args.units.now) in
    let written = with_text-all cs rest c.requires.is_text long in
    grind (arith, common_steps, written)
