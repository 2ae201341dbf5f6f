-- What is printed of each error. A count is in decimal.
use Rattle.std.specs.Prelude.{ℕ, List, ◌++◌, codes}
use Rattle.std.specs.Fmt.{decimal}
use Rattle.uefi_path.specs.PathErrors.{path_error_text}
use Rattle.uefi_text.specs.ErrorTexts.{from_slice_with_nul_error_text}
use Rattle.upath.specs.declared.judging.JudgeError.{JudgeError}
use Rattle.upath.specs.declared.judging.JudgeError.TheVariants as judge
use Rattle.upath.specs.declared.streams.StreamFault.{StreamFault}
use Rattle.upath.specs.declared.streams.StreamFault.TheVariants as stream

-- the text of an error for refused bytes
abbrev pub judge_error_text : JudgeError → List ℕ
judge_error_text judge.HalfUnit = codes "odd number of bytes"
judge_error_text (judge.Text error) = from_slice_with_nul_error_text error
judge_error_text (judge.Invalid error) = path_error_text error
judge_error_text judge.OutOfMemory = codes "out of memory"

-- the text of an error for a list of commands that was cut short, with the number of commands that
-- were done
abbrev pub run_fault_text : ℕ → List ℕ
run_fault_text done = codes "out of memory after " ++ decimal done ++ codes " commands"

-- the text of an error for a run over streams that ended early
abbrev pub stream_fault_text : StreamFault → List ℕ
stream_fault_text stream.Read = codes "a read failed"
stream_fault_text stream.Write = codes "a write failed"
stream_fault_text stream.OutOfMemory = codes "out of memory"
