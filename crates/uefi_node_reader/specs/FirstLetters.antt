-- The first letters of texts, with a bit for each letter: the bit of a byte is the number of its low six
-- bits.
use Rattle.std.specs.Prelude.{ℕ, ◌/◌, ◌%◌, ◌^◌, Bool, false, ◌==◌, ◌||◌, List, [], ◌∷◌}
use Rattle.std.specs.Char.{to_ascii_lowercase, to_ascii_uppercase}
use Rattle.std.specs.List.{list_all}
use Rattle.uefi_device_nodes.specs.Rows.{Form}

-- whether a byte is one of these letters
abbrev pub is_in : ℕ → ℕ → Bool
is_in letters c = letters / 2 ^ (c % 64) % 2 == 1

-- whether a text begins with one of these letters
abbrev pub begins_in : ℕ → List ℕ → Bool
begins_in letters [] = false
begins_in letters (c ∷ cs) = is_in letters c

-- whether a text begins with one of these letters, in either case
abbrev pub begins_in_either_case : ℕ → List ℕ → Bool
begins_in_either_case letters [] = false
begins_in_either_case letters (c ∷ cs) =
    is_in letters (to_ascii_uppercase c) || is_in letters (to_ascii_lowercase c)

-- whether the texts of all forms begin with one of these letters
abbrev pub all_begin_in : ℕ → List Form → Bool
all_begin_in letters forms = list_all (λ form. begins_in letters form.start) forms
