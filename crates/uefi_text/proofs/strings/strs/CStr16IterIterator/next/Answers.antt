-- What holds of each character holds of those that are left.
use Rattle.std.proofs.lemmas.List.Elements.{All-rest}
use Rattle.uefi_text.specs.Units.{IsChar16}
use Rattle.uefi_text.proofs.strings.strs.CStr16IterIterator.next.Goals as goal

pub invariant_of-self : goal.invariant_of-self
invariant_of-self c =
    record { are_characters = All-rest IsChar16 _ _ _ c.in_ok-first.ensures.cases.0 c.args.self.now.are_characters }
