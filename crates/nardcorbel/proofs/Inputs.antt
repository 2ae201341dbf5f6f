-- What is read of the input of a call.
use Rattle.std.proofs.Common.{◌≡◌, refl, ℕ, List, true, false, Ok}
use Rattle.std.proofs.lemmas.Str.{IsUtf8-from_is_utf8, is_utf8-from_IsUtf8}
use Rattle.std.proofs.lemmas.Bool.{false_from_ne_true}
use Rattle.std.specs.Str.{IsUtf8, is_utf8}
use Rattle.nardcorbel.specs.Reading.{read_utf8}

pub is_valid : (bytes : List ℕ) → IsUtf8 bytes → is_utf8 bytes ≡ true
is_valid = is_utf8-from_IsUtf8

pub is_not : (bytes : List ℕ) → ¬ IsUtf8 bytes → is_utf8 bytes ≡ false
is_not bytes invalid = false_from_ne_true (is_utf8 bytes) (λ t. invalid (IsUtf8-from_is_utf8 bytes t))

pub utf8_read : (bytes : List ℕ) → IsUtf8 bytes → read_utf8 bytes ≡ Ok bytes
unfolding read_utf8
utf8_read bytes utf8 = rw (is_valid bytes utf8) refl

pub ruleset reads = (is_valid, is_not)
