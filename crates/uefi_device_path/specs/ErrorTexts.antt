-- What is printed of each error. An offset is in decimal.
use Rattle.std.specs.Prelude.{ℕ, List, ◌++◌, codes}
use Rattle.std.specs.Fmt.{decimal}
use Rattle.uefi_device_nodes.specs.NodeErrorTexts.{node_error_text}
use Rattle.uefi_device_path.specs.declared.errors.DevicePathError.{DevicePathError}
use Rattle.uefi_text.specs.ErrorTexts.{from_slice_with_nul_error_text}
use Rattle.uefi_device_path.specs.declared.errors.FilePathCause.{FilePathCause}
use Rattle.uefi_device_path.specs.declared.errors.FilePathCause.TheVariants as file
use Rattle.uefi_device_path.specs.declared.errors.FilePathError.{FilePathError}
use Rattle.uefi_device_path.specs.declared.errors.FilePathWriteError.{FilePathWriteError}
use Rattle.uefi_device_path.specs.declared.errors.FilePathWriteError.TheVariants as in_buffer
use Rattle.uefi_device_path.specs.declared.errors.LoadOptionCause.{LoadOptionCause}
use Rattle.uefi_device_path.specs.declared.errors.LoadOptionCause.TheVariants as option
use Rattle.uefi_device_path.specs.declared.errors.LoadOptionError.{LoadOptionError}
use Rattle.uefi_device_path.specs.declared.errors.BuildError.{BuildError}
use Rattle.uefi_device_path.specs.declared.errors.GrowError.{GrowError}
use Rattle.uefi_device_path.specs.declared.errors.GrowError.TheVariants as grow
use Rattle.uefi_device_path.specs.declared.errors.BuildError.TheVariants as build
use Rattle.uefi_device_path.specs.declared.errors.OptionBuildError.{OptionBuildError}
use Rattle.uefi_device_path.specs.declared.errors.OptionBuildError.TheVariants as written

-- the text of an error for a refused device path
abbrev pub device_path_error_text : DevicePathError → List ℕ
device_path_error_text error = node_error_text error.cause ++ codes " at offset " ++ decimal error.offset

-- the text of a fault of a load option
abbrev pub load_option_cause_text : LoadOptionCause → List ℕ
load_option_cause_text option.TooShort = codes "load option ends before its description"
load_option_cause_text option.DescriptionWithoutEnd = codes "description is not null-terminated"
load_option_cause_text option.ListBeyondEnd =
    codes "file path list extends past the end of the load option"
load_option_cause_text option.EmptyList = codes "file path list is empty"
load_option_cause_text (option.FilePathList cause) = node_error_text cause

-- the text of an error for a refused load option
abbrev pub load_option_error_text : LoadOptionError → List ℕ
load_option_error_text error =
    load_option_cause_text error.cause ++ codes " at offset " ++ decimal error.offset

-- the text of an error for a node that is not added to a device path
abbrev pub build_error_text : BuildError → List ℕ
build_error_text build.EndNode = codes "end node is only allowed at the end of a device path"
build_error_text build.NodeTooLong = codes "device path node is longer than 65,535 bytes"
build_error_text (build.BufferTooSmall needed) =
    codes "buffer too small: the device path needs " ++ decimal needed ++ codes " bytes"
build_error_text build.OutOfMemory = codes "out of memory"

-- the text of an error if nothing is added to the path that a buffer begins with
abbrev pub grow_error_text : GrowError → List ℕ
grow_error_text (grow.Path error) = device_path_error_text error
grow_error_text (grow.Build error) = build_error_text error

-- the text of an error for a node without a name
abbrev pub file_path_cause_text : FilePathCause → List ℕ
file_path_cause_text file.HalfUnit = codes "file path: odd number of bytes"
file_path_cause_text (file.Text error) = codes "file path: " ++ from_slice_with_nul_error_text error
file_path_cause_text file.OutOfMemory = codes "out of memory"

-- the text of an error for nodes without a file path
abbrev pub file_path_error_text : FilePathError → List ℕ
file_path_error_text error = file_path_cause_text error.cause ++ codes " at offset " ++ decimal error.offset

-- the text of an error for a load option that is not written
abbrev pub option_build_error_text : OptionBuildError → List ℕ
option_build_error_text (written.NulInDescription place) =
    codes "description: interior null character at index " ++ decimal place
option_build_error_text written.EmptyList = codes "file path list is empty"
option_build_error_text written.ListTooLong =
    codes "file path list is longer than 65,535 bytes"
option_build_error_text written.TooLong = codes "load option does not fit in memory"
option_build_error_text (written.BufferTooSmall needed) =
    codes "buffer too small: the load option needs " ++ decimal needed ++ codes " bytes"
option_build_error_text written.OutOfMemory = codes "out of memory"

-- the text of an error for a file path that is not written into a buffer
abbrev pub file_path_write_error_text : FilePathWriteError → List ℕ
file_path_write_error_text (in_buffer.Name error) = file_path_error_text error
file_path_write_error_text (in_buffer.BufferTooSmall needed) =
    codes "buffer too small: the file path needs " ++ decimal needed ++ codes " units"
