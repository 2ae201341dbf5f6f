use Rattle.uefi_text.proofs.Texts.{IsText-unrefused, characters-IsText}
use Rattle.uefi_text.proofs.laws.text_once.Goals as goal

pub returns-clause-unrefused : goal.returns-clause-unrefused
returns-clause-unrefused c characters are_characters = IsText-unrefused characters are_characters

pub returns-clause-characters : goal.returns-clause-characters
returns-clause-characters c text is_text = characters-IsText text is_text
