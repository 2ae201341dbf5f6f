-- The characters stand where the NUL stood, before a new one.
use Rattle.std.proofs.Common.{◌≡◌, ◌++◌, arith}
use Rattle.std.proofs.lemmas.Grind.{common_steps}
use Rattle.std.proofs.lemmas.List.Elements.{All-append}
use Rattle.uefi_text.specs.Units.{IsTextUnit, nul_terminated, without_nul}
use Rattle.uefi_text.specs.Views.{units_of}
use Rattle.uefi_text.proofs.Texts.{IsString-made}
use Rattle.uefi_text.proofs.Values.{IsText-units_of}
use Rattle.uefi_text.proofs.strings.owned_strs.CString16.push_part.Goals as goal

pub invariant_of-self-2 : goal.invariant_of-self-2
invariant_of-self-2 g c =
    let text = without_nul c.self.inside.units.items in
    let more = units_of c.args.part in
    let copied : c.extend_from_slice-2.new.self.items ≡ nul_terminated (text ++ more) = grind (arith, common_steps) in
    IsString-made _ (text ++ more) copied (All-append IsTextUnit text more c.self.invariant.1 (IsText-units_of c.args.part c.requires))
