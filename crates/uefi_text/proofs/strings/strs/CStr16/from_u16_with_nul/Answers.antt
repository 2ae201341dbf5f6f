-- Units are accepted exactly where their deciding place is a last NUL, which is where they are a string.
use Rattle.std.proofs.Common.{◌≡◌, None, arith}
use Rattle.std.proofs.lemmas.Grind.{common_steps}
use Rattle.uefi_text.proofs.Deciding.{IsString-accepted, with_nul_refusal-IsString}
use Rattle.uefi_text.specs.FromSliceWithNul.{with_nul_refusal}
use Rattle.uefi_text.proofs.strings.strs.CStr16.from_u16_with_nul.Goals as goal

pub invariant_of-result : goal.invariant_of-result
invariant_of-result c =
    let accepted : with_nul_refusal c.args.units.now ≡ None = grind (arith, common_steps) in
    record { is_string = IsString-accepted c.args.units.now (λ k. omega (arith, c.type_inv.units k)) accepted }

pub returns-in_default-clause-accepts : goal.returns-in_default-clause-accepts
returns-in_default-clause-accepts c =
    (λ h. grind (arith, common_steps), λ string. let none = with_nul_refusal-IsString c.args.units.now string in grind (arith, common_steps))

pub returns-in_err-check_deciding_unit-clause-accepts : goal.returns-in_err-check_deciding_unit-clause-accepts
returns-in_err-check_deciding_unit-clause-accepts c =
    (λ h. grind (arith, common_steps), λ string. let none = with_nul_refusal-IsString c.args.units.now string in grind (arith, common_steps))
