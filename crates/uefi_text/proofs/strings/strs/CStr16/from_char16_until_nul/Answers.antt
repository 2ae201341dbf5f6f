-- Characters up to and with their first NUL are a string.
use Rattle.std.proofs.Common.{All, refl, sym, subst, arith}
use Rattle.std.proofs.lemmas.Grind.{common_steps}
use Rattle.uefi_text.specs.declared.errors.FromSliceUntilNulError.TheVariants.{NoNul, OutOfMemory}
use Rattle.uefi_text.proofs.Accepting.{missing_nul-memory}
use Rattle.uefi_text.proofs.Deciding.{IsString-characters}
use Rattle.uefi_text.specs.Units.{IsChar16, IsString}
use Rattle.uefi_text.proofs.strings.strs.CStr16.from_char16_until_nul.Goals as goal

pub invariant_of-result : goal.invariant_of-result
invariant_of-result g c =
    let made = c.in-Ok.ensures in
    let are_characters = subst (All IsChar16) made.same made.are_characters in
    subst IsString (sym made.same) (IsString-characters c.args.characters.now c.in-Some.end (sym c.in-Some.ensures) are_characters)

pub returns-in_default-clause-memory : goal.returns-in_default-clause-memory
returns-in_default-clause-memory g c = missing_nul-memory c.args.characters.now NoNul (grind (arith, common_steps))

pub returns-in-Ok-clause-holds_nul : goal.returns-in-Ok-clause-holds_nul
returns-in-Ok-clause-holds_nul g c = (missing_nul-memory c.args.characters.now OutOfMemory (grind (arith, common_steps))).0 refl

pub returns-in-Err-clause-memory : goal.returns-in-Err-clause-memory
returns-in-Err-clause-memory g c = missing_nul-memory c.args.characters.now OutOfMemory (grind (arith, common_steps))
