-- Words that are read.
use Rattle.std.specs.Prelude.{ℕ, Bool, true, false, nat_lt, ◌==◌, ◌&&◌, ◌||◌, if◌then◌else◌, List, [], ◌∷◌, Option, Some, None}
use Rattle.std.specs.List.{list_all}
use Rattle.uefi_device_nodes.specs.Words.{Word, suits, word_text}

-- the rest of a text after a literal
abbrev pub after : List ℕ → List ℕ → Option (List ℕ)
after [] text = Some text
after (c ∷ cs) [] = None
after (c ∷ cs) (t ∷ ts) = if c == t then after cs ts else None

-- the number of a word, if the text begins with it, or else what was read otherwise
abbrev pub or_word : ℕ → Option (List ℕ) → Option (ℕ × List ℕ) → Option (ℕ × List ℕ)
or_word number None other = other
or_word number (Some rest) other = Some (number, rest)

-- the number of a word, and the rest of the text
abbrev pub word_read : List Word → List ℕ → Option (ℕ × List ℕ)
word_read [] text = None
word_read (word ∷ words) text = or_word word.number (after word.text text) (word_read words text)

-- the number that the word for a number is read as
abbrev pub word_number : List Word → ℕ → ℕ
word_number [] n = n
word_number (word ∷ words) n = if suits n word then word.number else word_number words n

-- whether texts differ at an index that both have
abbrev pub clash : List ℕ → List ℕ → Bool
clash [] others = false
clash (c ∷ cs) [] = false
clash (c ∷ cs) (d ∷ ds) = if c == d then clash cs ds else true

-- whether texts are equal
abbrev pub same_text : List ℕ → List ℕ → Bool
same_text [] [] = true
same_text [] (d ∷ ds) = false
same_text (c ∷ cs) [] = false
same_text (c ∷ cs) (d ∷ ds) = (c == d) && same_text cs ds

-- whether no word is a prefix of another
abbrev pub all_clash : List Word → Bool
all_clash [] = true
all_clash (word ∷ words) = list_all (λ other. clash word.text other.text) words && all_clash words

-- whether one word suits all numbers
abbrev pub suit_all : List Word → Bool
suit_all [] = false
suit_all (word ∷ words) = (word.mask == 0) || suit_all words

-- whether a word is printed for the number that it is read as, and the number is a byte
abbrev pub is_own : List Word → Word → Bool
is_own words word = same_text (word_text words word.number) word.text
    && ((word_number words word.number == word.number) && nat_lt word.number 256)

-- whether words are read back from what they print
abbrev pub are_sound : List Word → Bool
are_sound words = all_clash words && (suit_all words && list_all (is_own words) words)
