-- Texts that are read alike.
use Rattle.std.specs.Prelude.{◌≡◌, ◌≤◌, ℕ, Bool, true, false, List, ◌∷◌, ◌++◌, codes, Some, None, Err}
use Rattle.std.specs.Result.{result_ok}
use Rattle.uefi_node_reader.specs.LenientFields.{after_literal, any_number, begins_base}
use Rattle.uefi_node_reader.specs.LenientCalls.{cut_call, tidied}
use Rattle.uefi_node_reader.specs.LenientNodes.{begins_call, ended_spaced, lenient_read}
use Rattle.uefi_node_reader.specs.NamedFiles.{node_read, past_spaces}
use Rattle.uefi_node_reader.specs.Numerals.{has_digit}
use Rattle.uefi_node_reader.specs.TextCalls.{texts_tried}

-- a text begins with a call: `front` comes before its `)`, and `rest` after it; the call names no file, has
-- no form that contains a text, and is not read exactly
pub record IsOtherCall (text front rest : List ℕ) : Type 0 where
  pub begins : begins_call text ≡ true
  pub cut : cut_call text ≡ Some (front, rest)
  pub no_file : result_ok (after_literal (codes "File(") (past_spaces text)) ≡ None
  pub textless : texts_tried front (tidied front) ≡ Err None
  pub inexact : ended_spaced (node_read text) ≡ None

-- two calls of that kind that differ only in case and in blanks are read as the same node
abbrev pub CallsAlike : Type 0
CallsAlike = (is_rooted : Bool) (text other front back rest : List ℕ) → IsOtherCall text front rest
    → IsOtherCall other back rest → tidied front ≡ tidied back
    → result_ok (lenient_read is_rooted text) ≡ result_ok (lenient_read is_rooted other)

-- a zero before a number of decimal digits changes nothing
abbrev pub ZerosAlike : Type 0
ZerosAlike = (limit : ℕ) (text : List ℕ) → 1 ≤ limit → has_digit 10 text ≡ true → begins_base text ≡ false
    → any_number limit (48 ∷ text) ≡ any_number limit text

-- a zero after `0x` changes nothing
abbrev pub ZerosAlikeAfterBase : Type 0
ZerosAlikeAfterBase = (limit : ℕ) (text : List ℕ) → 1 ≤ limit → has_digit 16 text ≡ true
    → any_number limit (codes "0x0" ++ text) ≡ any_number limit (codes "0x" ++ text)
