-- The character stands where the NUL stood, before a new one.
use Rattle.std.proofs.Common.{arith}
use Rattle.std.proofs.lemmas.Grind.{common_steps}
use Rattle.uefi_text.proofs.Texts.{IsString-pushed}
use Rattle.uefi_text.proofs.strings.owned_strs.CString16.push_to_full.Goals as goal

pub invariant_of-self-2 : goal.invariant_of-self-2
invariant_of-self-2 g c = IsString-pushed c.self.inside.units.items _ _ _ c.self.invariant (grind (arith, common_steps)) c.in_ok-push.ensures.items cc
