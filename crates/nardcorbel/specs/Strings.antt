-- The text that units hold up to their NUL.
use Rattle.std.specs.Prelude.{ℕ, List}
use Rattle.std.specs.List.{before_first}
use Rattle.uefi_text.specs.Units.{is_nul}

-- what stands before the first NUL of units, and all of them where there is none
abbrev pub text_until_nul : List ℕ → List ℕ
text_until_nul units = before_first is_nul units
