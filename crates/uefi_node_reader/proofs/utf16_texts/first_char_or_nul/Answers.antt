use Rattle.uefi_node_reader.specs.Utf16Texts.{paired_chars}
use Rattle.uefi_node_reader.proofs.Utf16Texts.{none_from}
use Rattle.uefi_node_reader.proofs.utf16_texts.first_char_or_nul.Goals as goal

pub returns-in-None-clause-chars : goal.returns-in-None-clause-chars
returns-in-None-clause-chars c = λ n passed. none_from (paired_chars c.args.units.now) n passed c.in-None.ensures
