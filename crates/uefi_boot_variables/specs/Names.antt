-- The names of the variables that hold load options (UEFI Specification 2.10, section 3.3).
use Rattle.std.specs.Prelude.{ℕ, ◌+◌, ◌/◌, ◌%◌, nat_lt, codes, if◌then◌else◌, List, [], ◌∷◌, ◌++◌}
use Rattle.uefi_boot_variables.specs.declared.variable_names.LoadOptionKind.{LoadOptionKind}
use Rattle.uefi_boot_variables.specs.declared.variable_names.LoadOptionKind.TheVariants.{Boot, Driver, SysPrep, PlatformRecovery}
use Rattle.uefi_boot_variables.specs.declared.variable_names.LoadOptionName.{LoadOptionName}

-- the word that the names of a kind begin with
abbrev pub word_of : LoadOptionKind → List ℕ
word_of Boot = codes "Boot"
word_of Driver = codes "Driver"
word_of SysPrep = codes "SysPrep"
word_of PlatformRecovery = codes "PlatformRecovery"

-- the hexadecimal digit of a number below 16: 0 to 9, and A to F
abbrev pub name_digit : ℕ → ℕ
name_digit number = if nat_lt number 10 then 48 + number else 55 + number

-- the four hexadecimal digits of a number below 65536, the highest first
abbrev pub four_digits : ℕ → List ℕ
four_digits number =
    name_digit (number / 4096) ∷ name_digit (number / 256 % 16)
    ∷ name_digit (number / 16 % 16) ∷ name_digit (number % 16) ∷ []

-- the text of a name
abbrev pub name_text : LoadOptionName → List ℕ
name_text name = word_of name.kind ++ four_digits name.number
