-- The errors of the library as a caller in C sees them: a reason, and the place at fault.
use Rattle.std.specs.Prelude.{ℕ, ◌-◌, List, length}
use Rattle.uefi_text.specs.declared.errors.FromSliceUntilNulError.{FromSliceUntilNulError}
use Rattle.uefi_text.specs.declared.errors.FromSliceUntilNulError.TheVariants as until_nul
use Rattle.uefi_text.specs.declared.errors.FromSliceWithNulError.{FromSliceWithNulError}
use Rattle.uefi_text.specs.declared.errors.FromSliceWithNulError.TheVariants as with_nul
use Rattle.uefi_text.specs.declared.unit_sink.BufferTooSmall.{BufferTooSmall}
use Rattle.uefi_device_path.specs.NodeFaults.{fault_place}
use Rattle.uefi_device_path.specs.declared.errors.BuildError.{BuildError}
use Rattle.uefi_device_path.specs.declared.errors.BuildError.TheVariants as build
use Rattle.uefi_device_path.specs.declared.errors.DevicePathError.{DevicePathError}
use Rattle.uefi_device_path.specs.declared.errors.FilePathError.{FilePathError}
use Rattle.uefi_device_path.specs.declared.errors.GrowError.{GrowError}
use Rattle.uefi_device_path.specs.declared.errors.GrowError.TheVariants as grow
use Rattle.uefi_device_path.specs.declared.errors.LoadOptionError.{LoadOptionError}
use Rattle.uefi_device_path.specs.NodeError.{NodeError}
use Rattle.uefi_device_path.specs.declared.errors.OptionBuildError.{OptionBuildError}
use Rattle.uefi_device_path.specs.declared.errors.OptionBuildError.TheVariants as option
use Rattle.uefi_device_path.specs.declared.text.text_errors.PushTextError.{PushTextError}
use Rattle.uefi_device_path.specs.declared.text.text_errors.PushTextError.TheVariants as text
use Rattle.uefi_device_path.specs.declared.text.text_errors.TextFault.{TextFault}
use Rattle.nardcorbel.specs.Outcomes.{refusal_at, refusal_for, too_small}
use Rattle.nardcorbel.specs.Reasons.{name_reason, node_reason, option_reason, with_nul_reason}
use Rattle.nardcorbel.specs.declared.outcomes.Refusal.{Refusal}
use Rattle.nardcorbel.specs.declared.reasons.TheConstants.{NO_NUL, INVALID_CHAR, INTERIOR_NUL, BUFFER_TOO_SMALL, EMPTY_LIST, NODE_OF_END, NODE_TOO_LONG, LIST_TOO_LONG, NO_NODE}

-- units that begin with no string: the place is that of the unit at fault, or after all of them if a NUL is
-- missing; memory is never the reason
abbrev pub string_refusal : List ℕ → FromSliceUntilNulError → Refusal
string_refusal units (until_nul.InvalidChar place) = refusal_at INVALID_CHAR place
string_refusal units until_nul.NoNul = refusal_at NO_NUL (length units)
string_refusal units until_nul.OutOfMemory = refusal_at NO_NUL (length units)

-- the place at fault in units that are not one string
abbrev pub with_nul_place : List ℕ → FromSliceWithNulError → ℕ
with_nul_place units (with_nul.InvalidChar place) = place
with_nul_place units (with_nul.InteriorNul place) = place
with_nul_place units with_nul.NotNulTerminated = length units
with_nul_place units with_nul.NotAligned = length units
with_nul_place units with_nul.OutOfMemory = length units

-- units that are not one string; neither memory nor a place in memory is ever the reason
abbrev pub with_nul_refused : List ℕ → FromSliceWithNulError → Refusal
with_nul_refused units error = refusal_at (with_nul_reason error) (with_nul_place units error)

-- a text that has no room: its length
abbrev pub room_refused : BufferTooSmall → Refusal
room_refused error = too_small (error.0 - 1)

-- bytes that begin with no device path, or with no node
abbrev pub path_refusal : DevicePathError → Refusal
path_refusal error = refusal_at (node_reason error.cause) error.offset

abbrev pub node_refusal : NodeError → Refusal
node_refusal cause = refusal_at (node_reason cause) (fault_place cause)

-- a node that should name a file and has no name
abbrev pub nameless_refusal : FilePathError → Refusal
nameless_refusal error = refusal_at (name_reason error.cause) error.offset

-- a node that is not added; memory is never the reason
abbrev pub build_refused : BuildError → Refusal
build_refused build.EndNode = refusal_for NODE_OF_END
build_refused build.NodeTooLong = refusal_for NODE_TOO_LONG
build_refused (build.BufferTooSmall needed) = too_small needed
build_refused build.OutOfMemory = refusal_for BUFFER_TOO_SMALL

-- the same where the path in the buffer may be at fault
abbrev pub grow_refused : GrowError → Refusal
grow_refused (grow.Path error) = path_refusal error
grow_refused (grow.Build error) = build_refused error

-- bytes that are no load option
abbrev pub entry_refusal : LoadOptionError → Refusal
entry_refusal error = refusal_at (option_reason error.cause) error.offset

-- a load option that is not written; memory is never the reason
abbrev pub option_refused : OptionBuildError → Refusal
option_refused (option.NulInDescription at) = refusal_for INTERIOR_NUL
option_refused option.EmptyList = refusal_for EMPTY_LIST
option_refused option.ListTooLong = refusal_for LIST_TOO_LONG
option_refused option.TooLong = refusal_for LIST_TOO_LONG
option_refused (option.BufferTooSmall needed) = too_small needed
option_refused option.OutOfMemory = refusal_for BUFFER_TOO_SMALL

-- a text that is not a path: the byte that is wrong
abbrev pub fault_refusal : TextFault → Refusal
fault_refusal fault = refusal_at NO_NODE fault.byte

-- a text whose nodes are not added
abbrev pub text_refused : PushTextError → Refusal
text_refused (text.Path error) = path_refusal error
text_refused (text.NoNode fault) = fault_refusal fault
text_refused (text.BufferTooSmall needed) = too_small needed
