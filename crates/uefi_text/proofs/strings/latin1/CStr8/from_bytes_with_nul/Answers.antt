-- Bytes are accepted exactly where their first NUL is the last byte, which is where they are a string.
use Rattle.std.proofs.Common.{arith, sym}
use Rattle.std.proofs.lemmas.Grind.{common_steps}
use Rattle.uefi_text.proofs.Deciding.{IsLatin1String-nul_last, first_nul_refusal-IsLatin1String}
use Rattle.uefi_text.proofs.strings.latin1.CStr8.from_bytes_with_nul.Goals as goal

pub invariant_of-result : goal.invariant_of-result
invariant_of-result c =
    record { is_string = IsLatin1String-nul_last c.args.chars.now c.in-Some.place (sym c.in-Some.ensures) c.if-place-chars.false }

pub returns-in_default-clause-accepts : goal.returns-in_default-clause-accepts
returns-in_default-clause-accepts c =
    (λ h. grind (arith, common_steps), λ string. let none = first_nul_refusal-IsLatin1String c.args.chars.now string in grind (arith, common_steps))

pub returns-then-place-chars-clause-accepts : goal.returns-then-place-chars-clause-accepts
returns-then-place-chars-clause-accepts c =
    (λ h. grind (arith, common_steps), λ string. let none = first_nul_refusal-IsLatin1String c.args.chars.now string in grind (arith, common_steps))
