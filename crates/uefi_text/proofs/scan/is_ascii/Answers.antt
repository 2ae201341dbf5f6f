use Rattle.uefi_text.proofs.Scanning.{ascii_units, not_found}
use Rattle.uefi_text.proofs.scan.is_ascii.Goals as goal

pub returns : goal.returns
returns c = not_found c.has_any.result _ c.has_any.ensures (ascii_units c.args.units.now)
