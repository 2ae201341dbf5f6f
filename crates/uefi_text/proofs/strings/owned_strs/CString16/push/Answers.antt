-- The character stands where the NUL stood, before a new one.
use Rattle.std.proofs.Common.{arith}
use Rattle.std.proofs.lemmas.Grind.{common_steps}
use Rattle.uefi_text.proofs.Texts.{IsString-pushed}
use Rattle.uefi_text.proofs.strings.owned_strs.CString16.push.Goals as goal

pub invariant_of-self : goal.invariant_of-self
invariant_of-self g c = IsString-pushed c.self.inside.units.items _ _ _ c.self.invariant (grind (arith, common_steps)) c.push_reserved.ensures.items cc
