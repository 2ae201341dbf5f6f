-- Units up to and with a NUL before which no surrogate stands are a string.
use Rattle.std.proofs.Common.{arith, refl, sym}
use Rattle.std.proofs.lemmas.Grind.{common_steps}
use Rattle.uefi_text.specs.Views.{text_of}
use Rattle.uefi_text.proofs.Accepting.{begins-deciding_nul, until_nul_refusal-begins}
use Rattle.uefi_text.proofs.Deciding.{IsString-until_nul, before_nul-deciding}
use Rattle.uefi_text.proofs.strings.strs.CStr16.from_u16_until_nul.Goals as goal

pub invariant_of-result : goal.invariant_of-result
invariant_of-result c =
    record { is_string = IsString-until_nul c.args.units.now c.in-Some.end (λ k. omega (arith, c.type_inv.units k)) (sym c.in-Some.ensures) c.if-units-end-ne0.false }

pub returns-clause-ok : goal.returns-clause-ok
unfolding text_of
returns-clause-ok c = before_nul-deciding c.args.units.now c.in-Some.end (sym c.in-Some.ensures) c.if-units-end-ne0.false

pub returns-in_default-clause-accepts : goal.returns-in_default-clause-accepts
returns-in_default-clause-accepts c =
    (λ h. grind (arith, common_steps), λ begins. let none = until_nul_refusal-begins c.args.units.now begins in grind (arith, common_steps))

pub returns-then-units-end-ne0-clause-accepts : goal.returns-then-units-end-ne0-clause-accepts
returns-then-units-end-ne0-clause-accepts c =
    (λ h. grind (arith, common_steps), λ begins. let none = until_nul_refusal-begins c.args.units.now begins in grind (arith, common_steps))

pub returns-clause-accepts : goal.returns-clause-accepts
returns-clause-accepts c = (
  λ _. begins-deciding_nul c.args.units.now c.in-Some.end (λ k. omega (arith, c.type_inv.units k)) (sym c.in-Some.ensures) c.if-units-end-ne0.false,
  λ _. refl,
)
