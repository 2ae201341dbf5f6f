-- Characters without NUL are a text, and any others are refused for it.
use Rattle.std.proofs.Common.{◌≡◌, ◌≢◌, ◌∙◌, ap, sym, refl, All, IsTrue, arith}
use Rattle.std.specs.Option.{unwrap_or}
use Rattle.std.proofs.lemmas.Grind.{common_steps}
use Rattle.uefi_text.specs.Units.{IsText, nul_terminated}
use Rattle.uefi_text.specs.declared.errors.FromStrError.TheVariants.{OutOfMemory}
use Rattle.uefi_text.proofs.Texts.{IsString-made, unrefused-IsText}
use Rattle.uefi_text.specs.Views.{units_of}
use Rattle.uefi_text.proofs.Values.{IsText-units_of, from_str_refusal-units_of}
use Rattle.uefi_text.proofs.strings.strs.Char16Slice.to_cstring16.Goals as goal

pub returns-then-not-has_no_nul-clause-refusal : goal.returns-then-not-has_no_nul-clause-refusal
returns-then-not-has_no_nul-clause-refusal g c =
    let has_nul : ¬ All (λ unit. unit ≢ 0) (units_of c.args.self.now) =
    λ no_nul. let yes = c.has_no_nul.ensures.1 no_nul in grind (arith, common_steps) in
    sym (ap (λ refusal. unwrap_or refusal OutOfMemory) (from_str_refusal-units_of c.args.self.now has_nul))

pub returns-in-Ok-clause-is_text : goal.returns-in-Ok-clause-is_text
returns-in-Ok-clause-is_text g c =
    let yes : IsTrue c.has_no_nul.result = grind (arith, common_steps) in
    IsText-units_of c.args.self.now (c.has_no_nul.ensures.0 yes)

pub invariant_of-result : goal.invariant_of-result
invariant_of-result g c =
    let made : c.in-Ok.units.items ≡ nul_terminated (units_of c.args.self.now) =
    c.in-Ok.ensures ∙ ap nul_terminated c.units.ensures in
    IsString-made c.in-Ok.units.items (units_of c.args.self.now) made (returns-in-Ok-clause-is_text g c)

pub returns-in-Ok-clause-accepted : goal.returns-in-Ok-clause-accepted
returns-in-Ok-clause-accepted g c = unrefused-IsText (units_of c.args.self.now) (returns-in-Ok-clause-is_text g c)

is_text_too : (g : _) (c : goal.In-Err g) → IsText (units_of c.args.self.now)
is_text_too g c =
    let yes : IsTrue c.has_no_nul.result = grind (arith, common_steps) in
    IsText-units_of c.args.self.now (c.has_no_nul.ensures.0 yes)

pub returns-in-Err-clause-memory : goal.returns-in-Err-clause-memory
returns-in-Err-clause-memory g c = (λ _. is_text_too g c, λ _. refl)

pub returns-in-Err-clause-refusal : goal.returns-in-Err-clause-refusal
returns-in-Err-clause-refusal g c =
    sym (ap (λ refusal. unwrap_or refusal OutOfMemory) (unrefused-IsText (units_of c.args.self.now) (is_text_too g c)))
