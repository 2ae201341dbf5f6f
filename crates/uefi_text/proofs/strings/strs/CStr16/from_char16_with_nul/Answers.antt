-- Characters of which the last alone is a NUL are a string.
use Rattle.std.proofs.Common.{◌≡◌, ◌+◌, All, sym, subst, take, arith, ◌∙◌}
use Rattle.std.proofs.lemmas.Grind.{common_steps}
use Rattle.std.proofs.lemmas.List.{take_all}
use Rattle.uefi_text.specs.declared.errors.FromSliceWithNulError.TheVariants.{InteriorNul, NotNulTerminated, OutOfMemory}
use Rattle.uefi_text.proofs.Accepting.{first_nul-memory}
use Rattle.uefi_text.proofs.Deciding.{IsString-characters}
use Rattle.uefi_text.specs.Units.{IsChar16, IsString}
use Rattle.uefi_text.proofs.strings.strs.CStr16.from_char16_with_nul.Goals as goal

all_taken : (g : _) (c : goal.In-Ok g) → c.in-Ok.units.items ≡ take (c.in-Some.place + 1) c.args.characters.now
all_taken g c = c.in-Ok.ensures.same ∙ sym (take_all (c.in-Some.place + 1) c.args.characters.now (omega arith))

pub invariant_of-result : goal.invariant_of-result
invariant_of-result g c =
    let are_characters = subst (All IsChar16) (all_taken g c) c.in-Ok.ensures.are_characters in
    subst IsString (sym (all_taken g c)) (IsString-characters c.args.characters.now c.in-Some.place (sym c.in-Some.ensures) are_characters)

pub returns-in-Ok-clause-ok : goal.returns-in-Ok-clause-ok
returns-in-Ok-clause-ok g c = sym (invariant_of-result g c).0 ∙ c.in-Ok.ensures.same

pub returns-in-Ok-clause-is_string : goal.returns-in-Ok-clause-is_string
returns-in-Ok-clause-is_string g c = subst IsString c.in-Ok.ensures.same (invariant_of-result g c)

pub returns-in_default-clause-memory : goal.returns-in_default-clause-memory
returns-in_default-clause-memory g c = first_nul-memory c.args.characters.now NotNulTerminated (grind (arith, common_steps))

pub returns-then-place-characters-clause-memory : goal.returns-then-place-characters-clause-memory
returns-then-place-characters-clause-memory g c =
    first_nul-memory c.args.characters.now (InteriorNul c.in-Some.place) (grind (arith, common_steps))

pub returns-in-Err-clause-memory : goal.returns-in-Err-clause-memory
returns-in-Err-clause-memory g c = first_nul-memory c.args.characters.now OutOfMemory (grind (arith, common_steps))
