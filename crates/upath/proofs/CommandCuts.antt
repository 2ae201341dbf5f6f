-- The command of a line follows from where its first space stands.
use Rattle.std.proofs.Common.{◌≡◌, ℕ, ◌<◌, List, length, arith, refl}
use Rattle.std.specs.List.{position_or_len, before_first, after_first}
use Rattle.std.specs.Str.{IsUtf8, is_utf8}
use Rattle.std.proofs.lemmas.Bool.{false_from_ne_true, lt-ltb, le-ltb}
use Rattle.std.proofs.lemmas.Str.{IsUtf8-from_is_utf8, is_utf8-from_IsUtf8}
use Rattle.upath.specs.Commands.{is_space_byte, verb_with, verb_alone, command_of, not_utf8}

pub command_of-not_utf8 : (line : List ℕ) → (IsUtf8 line → ⊥) → not_utf8 ≡ command_of line
command_of-not_utf8 line not_text =
    let e = false_from_ne_true (is_utf8 line) (λ t. not_text (IsUtf8-from_is_utf8 line t)) in
    rw e refl

pub command_of-with_text : (line verb text : List ℕ) → IsUtf8 line
    → verb ≡ before_first is_space_byte line → text ≡ after_first is_space_byte line
    → position_or_len is_space_byte line < length line → verb_with verb text ≡ command_of line
command_of-with_text line verb text utf8 before after inside =
    let e = is_utf8-from_IsUtf8 line utf8 in
    let f = lt-ltb (position_or_len is_space_byte line) (length line) inside in
    rw (e, f, before, after) refl

pub command_of-alone : (line : List ℕ) → IsUtf8 line
    → position_or_len is_space_byte line ≡ length line → verb_alone line ≡ command_of line
command_of-alone line utf8 past =
    let e = is_utf8-from_IsUtf8 line utf8 in
    let f = le-ltb (position_or_len is_space_byte line) (length line) (omega arith) in
    rw (e, f) refl
