-- What commands make of a path.
use Rattle.std.specs.Prelude.{◌≢◌, ℕ, List, [], None, ⊤}
use Rattle.std.specs.List.{fold}
use Rattle.uefi_text.specs.Views.{text_of}
use Rattle.uefi_path.specs.Parents.{parent_text}
use Rattle.uefi_path.specs.Views.{path_text}
use Rattle.upath.specs.Edits.{Edit, from, push, join, clear, parent, after_edit}
use Rattle.upath.specs.declared.path_commands.PathCommand.{PathCommand}
use Rattle.upath.specs.declared.path_commands.PathCommand.TheVariants.{From, Push, Join, Clear, Parent}

-- the edit that a command stands for
abbrev pub edit_shown : PathCommand → Edit
edit_shown (From string) = from (text_of string)
edit_shown (Push path) = push (path_text path)
edit_shown (Join path) = join (path_text path)
edit_shown Clear = clear
edit_shown Parent = parent

-- the path after one command
abbrev pub after_command : List ℕ → PathCommand → List ℕ
after_command path command = after_edit path (edit_shown command)

-- the path after commands, one after the other
abbrev pub after_commands : List ℕ → List PathCommand → List ℕ
after_commands path commands = fold after_command path commands

-- a command allocates at a path
abbrev pub TakesMemory : List ℕ → PathCommand → Type 0
TakesMemory text (From string) = ⊤
TakesMemory text (Push path) = path_text path ≢ []
TakesMemory text (Join path) = ⊤
TakesMemory text Clear = ⊥
TakesMemory text Parent = parent_text text ≢ None
