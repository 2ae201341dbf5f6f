-- What a line asks for.
use Rattle.std.specs.Prelude.{ℕ, Bool, ◌==◌, ◌+◌, if◌then◌else◌, List, Option, Some, None, take, drop, position, codes}
use Rattle.std.specs.Str.{bytes_eq, is_utf8}
use Rattle.upath.specs.declared.commands.Command.{Command}
use Rattle.upath.specs.declared.commands.Command.TheVariants.{From, Push, Join, Clear, Parent, Pieces, Up, Eq, Cmp, Check, Norm, Unknown, NotUtf8}

-- a command, with the bytes of its text if there is one
pub data LineCommand : Type 0 where
  from_text : List ℕ → LineCommand
  push_text : List ℕ → LineCommand
  join_text : List ℕ → LineCommand
  clear_path : LineCommand
  parent_path : LineCommand
  pieces : LineCommand
  up : LineCommand
  eq_text : List ℕ → LineCommand
  cmp_text : List ℕ → LineCommand
  check : LineCommand
  norm : LineCommand
  unknown : LineCommand
  not_utf8 : LineCommand

abbrev pub is_space_byte : ℕ → Bool
is_space_byte byte = byte == 32

-- a verb and the text that follows its space
abbrev pub verb_with : List ℕ → List ℕ → LineCommand
verb_with verb text =
    if bytes_eq verb (codes "from") then from_text text
    else if bytes_eq verb (codes "push") then push_text text
    else if bytes_eq verb (codes "join") then join_text text
    else if bytes_eq verb (codes "eq") then eq_text text
    else if bytes_eq verb (codes "cmp") then cmp_text text
    else unknown

-- a verb without a text
abbrev pub verb_alone : List ℕ → LineCommand
verb_alone verb =
    if bytes_eq verb (codes "clear") then clear_path
    else if bytes_eq verb (codes "parent") then parent_path
    else if bytes_eq verb (codes "pieces") then pieces
    else if bytes_eq verb (codes "up") then up
    else if bytes_eq verb (codes "check") then check
    else if bytes_eq verb (codes "norm") then norm
    else unknown

-- the command of a line by the place of its first space: the verb stands before it, the text is all
-- that follows
abbrev pub command_at : List ℕ → Option ℕ → LineCommand
command_at line None = verb_alone line
command_at line (Some place) = verb_with (take place line) (drop (place + 1) line)

-- the command of a line
abbrev pub command_of : List ℕ → LineCommand
command_of line = if is_utf8 line then command_at line (position is_space_byte line) else not_utf8

-- what the program's own value of a command stands for
abbrev pub command_shown : Command → LineCommand
command_shown (From text) = from_text text.now
command_shown (Push text) = push_text text.now
command_shown (Join text) = join_text text.now
command_shown Clear = clear_path
command_shown Parent = parent_path
command_shown Pieces = pieces
command_shown Up = up
command_shown (Eq text) = eq_text text.now
command_shown (Cmp text) = cmp_text text.now
command_shown Check = check
command_shown Norm = norm
command_shown Unknown = unknown
command_shown NotUtf8 = not_utf8
