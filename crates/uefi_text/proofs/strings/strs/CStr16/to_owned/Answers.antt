-- A copy of a string is one.
use Rattle.std.proofs.Common.{◌≡◌, arith}
use Rattle.std.proofs.lemmas.Grind.{common_steps}
use Rattle.uefi_text.specs.Units.{nul_terminated}
use Rattle.uefi_text.specs.Views.{text_of}
use Rattle.uefi_text.proofs.Texts.{IsString-made}
use Rattle.uefi_text.proofs.Values.{IsText-text_of}
use Rattle.uefi_text.proofs.strings.strs.CStr16.to_owned.Goals as goal

pub invariant_of-result : goal.invariant_of-result
invariant_of-result g c =
    let text = text_of c.args.self.now in
    let copied : c.extend_from_slice.new.self.items ≡ nul_terminated text = grind (arith, common_steps) in
    IsString-made c.extend_from_slice.new.self.items text copied (IsText-text_of c.args.self.now)
