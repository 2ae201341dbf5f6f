use Rattle.std.proofs.Common.{refl}
use Rattle.uefi_device_path.specs.LoadOptions.{entry_bytes}
use Rattle.uefi_device_path.proofs.Entries.{entry_once, entry_refused}
use Rattle.uefi_device_path.proofs.laws.options_once.Goals as goal

pub returns-clause-bytes : goal.returns-clause-bytes
returns-clause-bytes c entry other is_entry is_other same = entry_once entry other is_entry is_other same

pub returns-clause-never_both : goal.returns-clause-never_both
returns-clause-never_both c entry error is_entry refused = entry_refused (entry_bytes entry) error refused entry is_entry refl
