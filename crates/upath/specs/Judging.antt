-- Which bytes are judged to be a path, and why the others are not.
use Rattle.std.specs.Prelude.{◌≡◌, ℕ, ◌%◌, ◌==◌, ◌⊎◌, if◌then◌else◌, List, length, Option, Some, None, option_map, MatchOption}
use Rattle.uefi_text.specs.FromSliceWithNul.{with_nul_refusal}
use Rattle.uefi_text.specs.UnitBytes.{BytesEncode, units_of_bytes}
use Rattle.uefi_path.specs.Separators.{with_separators}
use Rattle.uefi_path.specs.Verdicts.{verdict}
use Rattle.upath.specs.declared.judging.JudgeError.{JudgeError}
use Rattle.upath.specs.declared.judging.JudgeError.TheVariants.{HalfUnit, Text, Invalid, OutOfMemory}

-- why bytes encode no text: they are odd in number, or their code units are refused
abbrev pub bytes_fault : List ℕ → Option JudgeError
bytes_fault bytes =
    if length bytes % 2 == 0 then option_map Text (with_nul_refusal (units_of_bytes bytes)) else Some HalfUnit

-- why the path of a text is refused, its slashes replaced
abbrev pub path_fault : List ℕ → Option JudgeError
path_fault text = option_map Invalid (verdict (with_separators text))

-- a path is valid, and the bytes encode its text, with slashes or separators
abbrev pub IsPathOf : List ℕ → List ℕ → Type 0
IsPathOf bytes path = (text : List ℕ)
    × BytesEncode bytes text × (path ≡ with_separators text) × (path_fault text ≡ None)

-- why bytes are refused: the fault of the bytes, else a lack of memory or the fault of their path
abbrev pub IsRefusalOf : List ℕ → JudgeError → Type 0
IsRefusalOf bytes error = MatchOption (bytes_fault bytes)
    ((text : List ℕ) × BytesEncode bytes text × ((error ≡ OutOfMemory) ⊎ (path_fault text ≡ Some error)))
    (λ fault. error ≡ fault)
