-- The first bytes of a buffer are the path that it begins with.
use Rattle.uefi_device_path.proofs.PushedAt.{pushed_at_path, pushed_at_refused}
use Rattle.uefi_device_path.proofs.laws.pushed_at_the_end.Goals as goal

pub returns-clause-refused : goal.returns-clause-refused
returns-clause-refused c bytes nodes node begins = pushed_at_refused bytes nodes node begins

pub returns-clause-written : goal.returns-clause-written
returns-clause-written c bytes nodes node begins = pushed_at_path bytes nodes node begins
