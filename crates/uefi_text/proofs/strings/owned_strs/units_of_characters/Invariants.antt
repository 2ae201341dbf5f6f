use Rattle.std.proofs.Common.{◌≡◌, All, take}
use Rattle.uefi_text.specs.Units.{IsChar16}
use Rattle.uefi_text.proofs.strings.owned_strs.units_of_characters.Given as goal

-- the characters so far were added
abbrev pub invariant-loop-c : goal.invariant-loop-c
invariant-loop-c g l = record {
  added : l.units.items ≡ take l.c-index l.characters;
  are_characters : All IsChar16 l.units.items;
}
