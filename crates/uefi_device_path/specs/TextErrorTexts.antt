-- What is printed where a text is not read.
use Rattle.std.specs.Prelude.{ℕ, List, ◌++◌, codes}
use Rattle.std.specs.Fmt.{decimal}
use Rattle.uefi_node_reader.specs.FaultTexts.{expected_text}
use Rattle.uefi_device_path.specs.ErrorTexts.{build_error_text, device_path_error_text}
use Rattle.uefi_device_path.specs.declared.errors.BuildError.TheVariants as build
use Rattle.uefi_device_path.specs.declared.text.text_errors.PathTextError.{PathTextError}
use Rattle.uefi_device_path.specs.declared.text.text_errors.PathTextError.TheVariants as read
use Rattle.uefi_device_path.specs.declared.text.text_errors.PushTextError.{PushTextError}
use Rattle.uefi_device_path.specs.declared.text.text_errors.PushTextError.TheVariants as push
use Rattle.uefi_device_path.specs.declared.text.text_errors.TextFault.{TextFault}

-- the text of an error for the place where no node is read
abbrev pub text_fault_text : TextFault → List ℕ
text_fault_text fault = codes "invalid node at offset " ++ decimal fault.node ++ codes ": expected "
    ++ expected_text fault.expected ++ codes " at offset " ++ decimal fault.byte

-- the text of an error for a text that is not a path
abbrev pub path_text_error_text : PathTextError → List ℕ
path_text_error_text (read.NoNode fault) = text_fault_text fault
path_text_error_text read.OutOfMemory = codes "out of memory"

-- the text of an error if the nodes of a text are not added to the path that a buffer begins with
abbrev pub push_text_error_text : PushTextError → List ℕ
push_text_error_text (push.Path error) = device_path_error_text error
push_text_error_text (push.NoNode fault) = text_fault_text fault
push_text_error_text (push.BufferTooSmall needed) = build_error_text (build.BufferTooSmall needed)
