-- Edits of a path, and what each makes of it.
use Rattle.std.specs.Prelude.{ℕ, List, [], unwrap_or}
use Rattle.uefi_path.specs.Parents.{parent_text}
use Rattle.uefi_path.specs.Pushing.{pushed}
use Rattle.uefi_path.specs.Separators.{with_separators}

-- an edit of a path, with the text of the other path where it takes one
pub data Edit : Type 0 where
  from : List ℕ → Edit
  push : List ℕ → Edit
  join : List ℕ → Edit
  clear : Edit
  parent : Edit

-- the path after an edit; where there is no parent it stays
abbrev pub after_edit : List ℕ → Edit → List ℕ
after_edit path (from text) = with_separators text
after_edit path (push text) = pushed path text
after_edit path (join text) = pushed path text
after_edit path clear = []
after_edit path parent = unwrap_or (parent_text path) path
