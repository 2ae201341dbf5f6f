-- What a call leaves of a buffer if it adds nodes at the end node of the path in its first bytes.
use Rattle.std.specs.Prelude.{ℕ, ◌+◌, ◌-◌, ◌^◌, min, nat_lt, if◌then◌else◌, List, ◌++◌, length, take, Option, Some, None, Result, Err}
use Rattle.uefi_device_path.specs.Building.{ends_at, grow_refusal, room_refusal}
use Rattle.uefi_device_path.specs.Nodes.{Node}
use Rattle.uefi_device_path.specs.NodeError.TheVariants.{Missing}
use Rattle.uefi_device_path.specs.Paths.{path_bytes}
use Rattle.uefi_device_path.specs.PushedPaths.{bytes_unless, once_read}
use Rattle.uefi_device_path.specs.StyledReading.{path_read}
use Rattle.uefi_device_path.specs.TextStyle.{TextStyle}
use Rattle.uefi_device_path.specs.declared.errors.BuildError.TheVariants as build
use Rattle.uefi_device_path.specs.declared.errors.DevicePathError.{DevicePathError}
use Rattle.uefi_device_path.specs.declared.errors.GrowError.{GrowError}
use Rattle.uefi_device_path.specs.declared.errors.GrowError.TheVariants as grow
use Rattle.uefi_device_path.specs.declared.text.text_errors.PushTextError.{PushTextError}
use Rattle.uefi_device_path.specs.declared.text.text_errors.PushTextError.TheVariants as push

-- a path has no end node where the caller says that it ends
abbrev pub missing_end : ℕ → DevicePathError
missing_end len = record { cause = Missing; offset = len }

-- an error of a call that was given a buffer from a place on
abbrev pub moved_error : ℕ → GrowError → GrowError
moved_error start (grow.Build (build.BufferTooSmall needed)) =
    grow.Build (build.BufferTooSmall (min (start + needed) (2 ^ 64 - 1)))
moved_error start error = error

abbrev pub moved_text_error : ℕ → PushTextError → PushTextError
moved_text_error start (push.BufferTooSmall needed) = push.BufferTooSmall (min (start + needed) (2 ^ 64 - 1))
moved_text_error start error = error

-- the first `len` bytes with nodes in place of the end node that they end with, and an end node after them
abbrev pub extended : ℕ → List ℕ → List Node → List ℕ
extended len bytes nodes = take (len - 4) bytes ++ path_bytes nodes

-- why the nodes of a path are not added at the end of the first `len` bytes, or none
abbrev pub append_at_refusal : List ℕ → ℕ → List Node → Option GrowError
append_at_refusal bytes len nodes =
    if ends_at bytes len
    then grow_refusal (room_refusal (length (extended len bytes nodes)) (length bytes) None)
    else Some (grow.Path (missing_end len))

abbrev pub nodes_appended_at : ℕ → List Node → List ℕ → Result (List ℕ) GrowError
nodes_appended_at len nodes buffer =
    bytes_unless (append_at_refusal buffer len nodes) (extended len buffer nodes)

-- bytes that have no room, with their number as far as a `usize` counts
abbrev pub room_or : List ℕ → List ℕ → Option PushTextError
room_or content buffer =
    if nat_lt (length buffer) (length content)
    then Some (push.BufferTooSmall (min (length content) (2 ^ 64 - 1)))
    else None

-- the first `len` bytes of a buffer with the nodes of a text at their end
abbrev pub text_pushed_at : TextStyle → List ℕ → ℕ → List ℕ → Result (List ℕ) PushTextError
text_pushed_at style text len buffer =
    if ends_at buffer len
    then once_read push.NoNode (path_read style text) (λ nodes.
    bytes_unless (room_or (extended len buffer nodes) buffer) (extended len buffer nodes))
    else Err (push.Path (missing_end len))

-- the path of a text
abbrev pub text_parsed : TextStyle → List ℕ → List ℕ → Result (List ℕ) PushTextError
text_parsed style text buffer = once_read push.NoNode (path_read style text) (λ nodes.
    bytes_unless (room_or (path_bytes nodes) buffer) (path_bytes nodes))
