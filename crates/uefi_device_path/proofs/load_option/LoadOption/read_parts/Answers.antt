use Rattle.uefi_device_path.specs.Views.{parts_of}
use Rattle.uefi_device_path.proofs.Entries.{entry_refused}
use Rattle.uefi_device_path.proofs.load_option.LoadOption.read_parts.Goals as goal

pub returns-in-Err-clause-accepts : goal.returns-in-Err-clause-accepts
returns-in-Err-clause-accepts c = (
  λ ok. absurd (cc ok),
  λ found. absurd (entry_refused c.args.bytes.now (parts_of c.in-Err.parts).error
      c.in-Err.ensures.refusal found.0 found.1 found.2),
)
