-- What a run prints: a function of its whole input. It begins with the empty path, and each line
-- prints its lines and leaves the path for the next one.
use Rattle.std.specs.Prelude.{ℕ, if◌then◌else◌, List, [], ◌∷◌, ◌++◌, length, Option, Some, None, option_map, unwrap_or, codes}
use Rattle.std.specs.Cmp.Lexicographic.{slice_cmp}
use Rattle.std.specs.Ordering.{nat_cmp}
use Rattle.std.specs.declared.cmp.Ordering.{Ordering}
use Rattle.std.specs.declared.cmp.Ordering.TheVariants.{Less, Equal, Greater}
use Rattle.std.specs.List.{flat_map}
use Rattle.std.specs.Str.{chars, encode_utf8_all, bytes_eq}
use Rattle.std.specs.Fmt.{decimal}
use Rattle.uefi_text.specs.ErrorTexts.{from_str_error_text}
use Rattle.uefi_text.specs.FromStr.{from_str_refusal}
use Rattle.uefi_text.specs.declared.errors.FromStrError.{FromStrError}
use Rattle.uefi_path.specs.Components.{components_of}
use Rattle.uefi_path.specs.Separators.{canonical}
use Rattle.uefi_path.specs.NormalForms.{normal_of, normal_text}
use Rattle.upath.specs.Lines.{lines_of}
use Rattle.uefi_path.specs.Parents.{parent_text}
use Rattle.uefi_path.specs.PathErrors.{path_error_text}
use Rattle.uefi_path.specs.SuccessiveParents.{parents_of}
use Rattle.uefi_path.specs.Verdicts.{verdict}
use Rattle.uefi_path.specs.declared.validation.PathError.{PathError}
use Rattle.upath.specs.Edits.{Edit, from, push, join, clear, parent, after_edit}
use Rattle.upath.specs.Commands.{LineCommand, from_text, push_text, join_text, clear_path, parent_path, pieces, up, eq_text, cmp_text, check, norm, unknown, not_utf8, command_of}

-- a printed line
abbrev pub line : List ℕ → List ℕ
line bytes = bytes ++ 10 ∷ []

-- a printed line: a mark and a text in UTF-8
abbrev pub text_line : List ℕ → List ℕ → List ℕ
text_line mark text = line (mark ++ encode_utf8_all text)

-- the line of a path
abbrev pub path_line : List ℕ → List ℕ
path_line path = text_line (codes "= ") path

-- the lines of `pieces`: how many there are, and each
abbrev pub pieces_lines : List (List ℕ) → List ℕ
pieces_lines components =
    line (codes "pieces " ++ decimal (length components)) ++ flat_map (text_line (codes "| ")) components

-- the lines of `up`: how many parents there are, and each
abbrev pub parents_lines : List (List ℕ) → List ℕ
parents_lines parents =
    line (codes "parents " ++ decimal (length parents)) ++ flat_map (text_line (codes "| ")) parents

-- the line of `eq`: whether two texts are equal as paths
abbrev pub eq_line : List ℕ → List ℕ → List ℕ
eq_line path other =
    if bytes_eq (canonical path) (canonical other) then line (codes "equal") else line (codes "different")

-- the line of `parent`: the parent, or that there is none
abbrev pub parent_line : Option (List ℕ) → List ℕ
parent_line None = line (codes "none")
parent_line (Some path) = path_line path

-- the line of `cmp`: how two texts are ordered as paths
abbrev pub cmp_line : Ordering → List ℕ
cmp_line Less = line (codes "less")
cmp_line Equal = line (codes "equal")
cmp_line Greater = line (codes "greater")

-- the line of `check`: that a path is accepted, or why it is not
abbrev pub check_line : Option PathError → List ℕ
check_line None = line (codes "ok")
check_line (Some error) = line (path_error_text error)

-- the line of `norm`: the normal path, or why the path has none
abbrev pub norm_line : Option PathError → List ℕ → List ℕ
norm_line None normal = path_line normal
norm_line (Some error) normal = line (path_error_text error)

-- what is printed where a command's text may be refused
abbrev pub printed_unless : Option FromStrError → List ℕ → List ℕ
printed_unless None printed = printed
printed_unless (Some error) printed = line (from_str_error_text error)

-- an edit whose text may be refused
abbrev pub edit_unless : Option FromStrError → Edit → Option Edit
edit_unless None edit = Some edit
edit_unless (Some error) edit = None

-- the edit that a command does, if it does one; its text is read as characters
abbrev pub edit_of : LineCommand → Option Edit
edit_of (from_text text) = edit_unless (from_str_refusal (chars text)) (from (chars text))
edit_of (push_text text) = edit_unless (from_str_refusal (chars text)) (push (chars text))
edit_of (join_text text) = edit_unless (from_str_refusal (chars text)) (join (chars text))
edit_of clear_path = Some clear
edit_of parent_path = Some parent
edit_of _ = None

-- the path after a command: it stays where the command does no edit
abbrev pub path_after : LineCommand → List ℕ → List ℕ
path_after command path = unwrap_or (option_map (after_edit path) (edit_of command)) path

-- what a command prints at a path
abbrev pub printed_by : LineCommand → List ℕ → List ℕ
printed_by (from_text text) path =
    printed_unless (from_str_refusal (chars text)) (path_line (after_edit path (from (chars text))))
printed_by (push_text text) path =
    printed_unless (from_str_refusal (chars text)) (path_line (after_edit path (push (chars text))))
printed_by (join_text text) path =
    printed_unless (from_str_refusal (chars text)) (path_line (after_edit path (join (chars text))))
printed_by clear_path path = path_line (after_edit path clear)
printed_by parent_path path = parent_line (parent_text path)
printed_by pieces path = pieces_lines (components_of path)
printed_by up path = parents_lines (parents_of path)
printed_by (eq_text text) path = printed_unless (from_str_refusal (chars text)) (eq_line path (chars text))
printed_by (cmp_text text) path =
    printed_unless (from_str_refusal (chars text))
    (cmp_line (slice_cmp nat_cmp (canonical path) (canonical (chars text))))
printed_by check path = check_line (verdict path)
printed_by norm path = norm_line (verdict path) (normal_text (normal_of (components_of path)))
printed_by unknown path = line (codes "? unknown command")
printed_by not_utf8 path = line (codes "? not UTF-8")

-- what lines print, from a path on
abbrev pub printed_from : List ℕ → List (List ℕ) → List ℕ
printed_from path [] = []
printed_from path (first ∷ others) =
    printed_by (command_of first) path ++ printed_from (path_after (command_of first) path) others

-- what a run prints in all: what is printed so far, and what the bytes to come print from its path on
abbrev pub output_with : List ℕ → List ℕ → List ℕ → List ℕ
output_with output path bytes = output ++ printed_from path (lines_of bytes)

-- the output of a run over an input
abbrev pub output_of : List ℕ → List ℕ
output_of input = printed_from [] (lines_of input)
