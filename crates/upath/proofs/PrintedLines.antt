-- What each line of an input prints: a byte or more, before what those after it print.
use Rattle.std.proofs.Common.{◌≡◌, ◌<◌, ◌+◌, ◌++◌, [], ◌∷◌, ℕ, List, Option, None, Some, drop, length, position, take, arith, inl, inr}
use Rattle.std.proofs.lemmas.Bool.{cases_Bool}
use Rattle.std.proofs.lemmas.List.{append-nil}
use Rattle.std.proofs.lemmas.Grind.{common_steps}
use Rattle.std.specs.Str.{bytes_eq, chars}
use Rattle.std.specs.Cmp.Lexicographic.{slice_cmp}
use Rattle.std.specs.Ordering.{nat_cmp}
use Rattle.std.specs.declared.cmp.Ordering.{Ordering}
use Rattle.std.specs.declared.cmp.Ordering.TheVariants.{Less, Equal, Greater}
use Rattle.uefi_text.specs.FromStr.{from_str_refusal}
use Rattle.uefi_text.specs.declared.errors.FromStrError.{FromStrError}
use Rattle.uefi_path.specs.Components.{components_of}
use Rattle.uefi_path.specs.NormalForms.{normal_of, normal_text}
use Rattle.uefi_path.specs.Separators.{canonical}
use Rattle.uefi_path.specs.Parents.{parent_text}
use Rattle.uefi_path.specs.Verdicts.{verdict}
use Rattle.uefi_path.specs.declared.validation.PathError.{PathError}
use Rattle.upath.specs.Commands.{LineCommand, from_text, push_text, join_text, clear_path, parent_path, pieces, up, eq_text, cmp_text, check, norm, unknown, not_utf8, command_of}
use Rattle.upath.specs.Lines.{IsUnended, is_line_feed, lines_of}
use Rattle.upath.proofs.LineEnds.{lines_of-end, lines_of-last}
use Rattle.upath.specs.Edits.{after_edit, from, push, join}
use Rattle.upath.specs.Output.{check_line, cmp_line, eq_line, norm_line, output_with, parent_line, path_after, path_line, printed_by, printed_unless}

printed_unless-some : (refusal : Option FromStrError) (printed : List ℕ) → 0 < length printed
    → 0 < length (printed_unless refusal printed)
printed_unless-some None printed some = some
printed_unless-some (Some error) printed some = grind (arith, common_steps)

eq_line-some : (path other : List ℕ) → 0 < length (eq_line path other)
eq_line-some path other =
    elim (cases_Bool (bytes_eq (canonical path) (canonical other))) [
      | inl same ↦ rw (same) (grind (arith, common_steps))
      | inr different ↦ rw (different) (grind (arith, common_steps))
    ]

cmp_line-some : (order : Ordering) → 0 < length (cmp_line order)
cmp_line-some Less = grind (arith, common_steps)
cmp_line-some Equal = grind (arith, common_steps)
cmp_line-some Greater = grind (arith, common_steps)

parent_line-some : (parent : Option (List ℕ)) → 0 < length (parent_line parent)
parent_line-some None = grind (arith, common_steps)
parent_line-some (Some parent) = grind (arith, common_steps)

check_line-some : (error : Option PathError) → 0 < length (check_line error)
check_line-some None = grind (arith, common_steps)
check_line-some (Some error) = grind (arith, common_steps)

norm_line-some : (error : Option PathError) (normal : List ℕ) → 0 < length (norm_line error normal)
norm_line-some None normal = grind (arith, common_steps)
norm_line-some (Some error) normal = grind (arith, common_steps)

path_line-some : (path : List ℕ) → 0 < length (path_line path)
path_line-some path = grind (arith, common_steps)

printed_by-some : (command : LineCommand) (path : List ℕ) → 0 < length (printed_by command path)
printed_by-some (from_text text) path =
    printed_unless-some (from_str_refusal (chars text)) _ (path_line-some (after_edit path (from (chars text))))
printed_by-some (push_text text) path =
    printed_unless-some (from_str_refusal (chars text)) _ (path_line-some (after_edit path (push (chars text))))
printed_by-some (join_text text) path =
    printed_unless-some (from_str_refusal (chars text)) _ (path_line-some (after_edit path (join (chars text))))
printed_by-some clear_path path = grind (arith, common_steps)
printed_by-some parent_path path = parent_line-some (parent_text path)
printed_by-some pieces path = grind (arith, common_steps)
printed_by-some up path = grind (arith, common_steps)
printed_by-some (eq_text text) path =
    printed_unless-some (from_str_refusal (chars text)) _ (eq_line-some path (chars text))
printed_by-some (cmp_text text) path =
    printed_unless-some (from_str_refusal (chars text)) _
    (cmp_line-some (slice_cmp nat_cmp (canonical path) (canonical (chars text))))
printed_by-some check path = check_line-some (verdict path)
printed_by-some norm path = norm_line-some (verdict path) (normal_text (normal_of (components_of path)))
printed_by-some unknown path = grind (arith, common_steps)
printed_by-some not_utf8 path = grind (arith, common_steps)

-- after its first line, a run prints what the others do
output_with-line : (output path bytes line others : List ℕ) → lines_of bytes ≡ line ∷ lines_of others
    → output_with output path bytes
    ≡ output_with (output ++ printed_by (command_of line) path) (path_after (command_of line) path) others
output_with-line output path bytes line others e = rw (e) (grind (arith, common_steps))

-- after the line that ends at the first line feed
pub output_with-end : (output path begun bytes rest : List ℕ) (end : ℕ) → IsUnended begun
    → Some end ≡ position is_line_feed bytes → output_with output path (begun ++ (bytes ++ rest))
    ≡ output_with (output ++ printed_by (command_of (begun ++ take end bytes)) path)
    (path_after (command_of (begun ++ take end bytes)) path) (drop (end + 1) bytes ++ rest)
output_with-end output path begun bytes rest end none e =
    output_with-line output path (begun ++ (bytes ++ rest)) (begun ++ take end bytes)
    (drop (end + 1) bytes ++ rest) (lines_of-end begun bytes rest end none e)

-- the output grows at each line
pub longer-printed : (output : List ℕ) (command : LineCommand) (path : List ℕ)
    → length output < length (output ++ printed_by command path)
longer-printed output command path =
    let some = printed_by-some command path in
    grind (arith, common_steps)

-- a last line that no line feed ends
pub output_with-last : (output path bytes : List ℕ) → 0 < length bytes → IsUnended bytes
    → output_with output path bytes ≡ output ++ printed_by (command_of bytes) path
output_with-last output path [] some unended = absurd (omega (arith, some))
output_with-last output path (byte ∷ bytes) some unended =
    rw (lines_of-last byte bytes unended) (grind (arith, common_steps))

-- no line is left
pub output_with-none : (output path bytes : List ℕ) → length bytes ≡ 0 → output_with output path bytes ≡ output
output_with-none output path [] none = append-nil output
output_with-none output path (byte ∷ bytes) none = absurd (omega (arith, none))
