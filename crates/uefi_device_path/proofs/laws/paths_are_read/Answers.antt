use Rattle.uefi_device_path.proofs.CheckedRuns.{path_is_read, reads_path, reads_refusal, refusal_is_read}
use Rattle.uefi_device_path.proofs.laws.paths_are_read.Goals as goal

pub returns-clause-path : goal.returns-clause-path
returns-clause-path c = λ bytes nodes byte. (reads_path bytes nodes byte, path_is_read bytes nodes)

pub returns-clause-refusal : goal.returns-clause-refusal
returns-clause-refusal c = λ bytes error byte. (reads_refusal bytes error byte, refusal_is_read bytes error)

pub returns-clause-begun : goal.returns-clause-begun
returns-clause-begun c = path_is_read

pub returns-clause-refused : goal.returns-clause-refused
returns-clause-refused c = refusal_is_read
