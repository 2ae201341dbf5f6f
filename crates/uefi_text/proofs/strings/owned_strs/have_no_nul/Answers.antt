use Rattle.uefi_text.proofs.Runs.{copies_no_nul}
use Rattle.uefi_text.proofs.Scanning.{finds_no_nul}
use Rattle.uefi_text.proofs.strings.owned_strs.have_no_nul.Goals as goal

pub returns-clause-all : goal.returns-clause-all
returns-clause-all c = finds_no_nul _ _ _ c.is_none.ensures c.find_first.ensures

pub returns-clause-copied : goal.returns-clause-copied
returns-clause-copied c tested = copies_no_nul c.args.characters.now ((finds_no_nul _ _ _ c.is_none.ensures c.find_first.ensures).0 tested)
