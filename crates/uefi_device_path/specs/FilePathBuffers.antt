-- A file path that is put into a sink, name by name.
use Rattle.std.specs.Prelude.{◌≡◌, ℕ, ◌+◌, ◌<◌, ◌==◌, List, ◌++◌, All, length}
use Rattle.uefi_path.specs.Pushing.{needs_separator}
use Rattle.uefi_device_nodes.specs.Nodes.{Node}
use Rattle.uefi_device_path.specs.FilePaths.{FileRefusedFor, IsReadable, file_path}
use Rattle.uefi_device_path.specs.declared.errors.FilePathWriteError.{FilePathWriteError}
use Rattle.uefi_device_path.specs.declared.errors.FilePathWriteError.TheVariants.{BufferTooSmall, Name}
use Rattle.uefi_device_path.specs.declared.file_path.PathEnd.{PathEnd}

-- a path ends like this
pub record EndsAs (path : List ℕ) (end : PathEnd) : Type 0 where
  pub empty : end.is_empty ≡ (length path == 0)
  pub missing : end.is_open ≡ needs_separator path

-- with this text added, a path becomes `next`, and ends like this
pub record IsAdded (path added next : List ℕ) (end : PathEnd) : Type 0 where
  pub whole : next ≡ path ++ added
  pub ends : EndsAs next end

-- no file path of these nodes is written into `room` places, for this error: a malformed name comes
-- first
abbrev pub WriteRefusedFor : List Node → ℕ → FilePathWriteError → Type 0
WriteRefusedFor nodes room (Name error) = FileRefusedFor nodes error
WriteRefusedFor nodes room (BufferTooSmall needed) =
    All IsReadable nodes × (needed ≡ length (file_path nodes) + 1) × (room < needed)
