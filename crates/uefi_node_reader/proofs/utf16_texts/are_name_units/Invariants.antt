use Rattle.std.proofs.Common.{◌≡◌, take}
use Rattle.std.specs.List.{list_all}
use Rattle.uefi_node_reader.specs.NamedFiles.{is_name_char}
use Rattle.uefi_node_reader.proofs.utf16_texts.are_name_units.Given as goal

abbrev pub invariant-loop-i : goal.invariant-loop-i
invariant-loop-i l = l.are_all ≡ list_all is_name_char (take l.i l.units)
