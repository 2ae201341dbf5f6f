-- Leaves: how the values of a type are printed, and how they are read again.
use Rattle.std.specs.Prelude.{◌≡◌, ◌<◌, ℕ, zero, suc, ◌+◌, ◌-◌, ◌*◌, ◌/◌, ◌%◌, ◌^◌, bit_and, nat_le, nat_lt, not, Bool, true, false, ◌==◌, ◌&&◌, ◌||◌, if◌then◌else◌, List, [], ◌∷◌, ◌++◌, codes, length, take, drop, reverse, Option, Some, None, Result, Ok, Err, option_and_then}
use Rattle.std.specs.Char.{is_ascii_whitespace, to_ascii_uppercase}
use Rattle.std.specs.Fmt.{digits}
use Rattle.std.specs.List.{list_all}
use Rattle.std.specs.Net.Addr.{octets_of}
use Rattle.std.specs.Net.Reader.{read_ipv6, whole_value}
use Rattle.std.specs.Option.{option_map}
use Rattle.uefi_text.specs.Packed.{little_endian}
use Rattle.uefi_text.specs.UnitBytes.{unit_bytes, units_of_bytes}
use Rattle.uefi_device_nodes.specs.FieldTexts.{comma_bytes, dashed_back, eisa_bits, eisa_text, hex, hex_back, hex_bytes, hex_two, id_strings_text, cid_string, hid_string, shown_bytes, uid_string, until_nul, utf16_text}
use Rattle.uefi_device_nodes.specs.Guids.{guid_text}
use Rattle.std.proofs.Math.ListN.{replicate}
use Rattle.uefi_node_steps.specs.declared.steps.Expected.{Expected}
use Rattle.uefi_node_steps.specs.declared.steps.Expected.TheVariants as expected
use Rattle.uefi_node_steps.specs.declared.steps.Stop.{Stop}

-- where a text stops being read
abbrev pub stop_at : List ℕ → Expected → Stop
stop_at text what = record { left = length text; expected = what }

-- a value and the rest of the text, or where the text stops
abbrev pub Read : Type 0 → Type 0
Read V = Result (V × List ℕ) Stop

-- the next reading, if everything was read so far
infixl 10 ◌>>=◌
abbrev pub ◌>>=◌ : {A B : Type 0} → Result A Stop → (A → Result B Stop) → Result B Stop
Err stop >>= f = Err stop
Ok read >>= f = f read

-- what was read at the start of a text, or what was expected there
abbrev pub expect : {A : Type 0} → Expected → List ℕ → Option A → Result A Stop
expect what text None = Err (stop_at text what)
expect what text (Some read) = Ok read

-- how the values of a type are printed, and how they are read
pub record Leaf (V : Type 0) : Type 0 where
  pub text : V → List ℕ
  pub read : List ℕ → Read V

-- a leaf that prints and reads bytes
abbrev pub ByteLeaf : Type 0
ByteLeaf = Leaf (List ℕ)

-- the same reading, printed in these words
abbrev pub printed : {V : Type 0} → (V → List ℕ) → Leaf V → Leaf V
printed text leaf = record { text = text; read = leaf.read }

-- no value
abbrev pub nothing : {V : Type 0} → Leaf (List V)
nothing = record { text = λ vs. []; read = λ text. Ok ([], text) }

-- a value, and then others
abbrev pub both_text : {V : Type 0} → Leaf V → Leaf (List V) → List V → List ℕ
both_text first others [] = []
both_text first others (v ∷ vs) = first.text v ++ others.text vs

abbrev pub both : {V : Type 0} → Leaf V → Leaf (List V) → Leaf (List V)
both first others = record {
  text = both_text first others;
  read = λ text. first.read text >>= λ v. others.read v.1 >>= λ vs. Ok (v.0 ∷ vs.0, vs.1);
}

-- the first bytes in one leaf, and the others in the next
abbrev pub beside : ℕ → ByteLeaf → ByteLeaf → ByteLeaf
beside width first others = record {
  text = λ bytes. first.text (take width bytes) ++ others.text (drop width bytes);
  read = λ text. first.read text >>= λ v. others.read v.1 >>= λ vs. Ok (v.0 ++ vs.0, vs.1);
}

-- values of a list
abbrev pub Each : {V : Type 0} → (V → Type 0) → List V → Type 0
Each Fits [] = Unit {0}
Each Fits (v ∷ vs) = Fits v × Each Fits vs

abbrev pub FitBoth : {V : Type 0} → (V → Type 0) → (List V → Type 0) → List V → Type 0
FitBoth Fits Others [] = ⊥
FitBoth Fits Others (v ∷ vs) = Fits v × Others vs

abbrev pub FitBeside : ℕ → (List ℕ → Type 0) → (List ℕ → Type 0) → List ℕ → Type 0
FitBeside width Fits Others bytes = Fits (take width bytes) × Others (drop width bytes)

-- this many bytes
abbrev pub IsBytes : ℕ → List ℕ → Type 0
IsBytes width bytes = (length bytes ≡ width) × Each (λ b. b < 256) bytes

-- the same leaf for other values
abbrev pub mapped : {V W : Type 0} → (V → W) → (W → V) → Leaf V → Leaf W
mapped to from leaf = record {
  text = λ w. leaf.text (from w);
  read = λ text. leaf.read text >>= λ v. Ok (to v.0, v.1);
}

-- a leaf for the values that pass a test
abbrev pub tested : {V : Type 0} → Bool → V → List ℕ → List ℕ → Expected → Read V
tested true v rest text what = Ok (v, rest)
tested false v rest text what = Err (stop_at text what)

abbrev pub only : {V : Type 0} → (V → Bool) → Expected → Leaf V → Leaf V
only test what leaf = record {
  text = leaf.text;
  read = λ text. leaf.read text >>= λ v. tested (test v.0) v.0 v.1 text what;
}

-- whether a letter is printable, and not `stop`
abbrev pub is_clear : ℕ → ℕ → Bool
is_clear stop c = (nat_le 0x20 c && nat_lt c 0x7f) && not (c == stop)

-- the letters that continue a value: none; digits and the `x` after a 0; these, a comma and a blank; or
-- what is printable, except this letter
pub data Class : Type 0 where
  Nobody : Class
  Number : Class
  Bytes : Class
  Clear : ℕ → Class

-- whether a letter is skipped between the parts of a call: a blank, a line end, or a brace around a GUID
abbrev pub is_blank : ℕ → Bool
is_blank c = is_ascii_whitespace c || ((c == 123) || (c == 125))

-- a text without its blanks at the start
abbrev pub past_blanks : List ℕ → List ℕ
past_blanks [] = []
past_blanks (c ∷ cs) = if is_blank c then past_blanks cs else c ∷ cs

-- a letter, whose value is empty
abbrev pub letter_read : ℕ → List ℕ → Read (List ℕ)
letter_read c [] = Err (stop_at [] (expected.Letter c))
letter_read c (t ∷ ts) =
    if to_ascii_uppercase c == to_ascii_uppercase t then Ok ([], ts)
    else Err (stop_at (t ∷ ts) (expected.Letter c))

-- letters
abbrev pub letters_read : List ℕ → List ℕ → Read (List ℕ)
letters_read [] text = Ok ([], text)
letters_read (c ∷ cs) text = do
  v ← letter_read c (past_blanks text)
  letters_read cs v.1

-- the first letter of a text, or 0 if it is empty
abbrev pub first_of : List ℕ → ℕ
first_of [] = 0
first_of (c ∷ cs) = c

-- a text after its first letter
abbrev pub after_first : List ℕ → List ℕ
after_first [] = []
after_first (c ∷ cs) = cs

-- whether letters are a comma
abbrev pub is_comma : List ℕ → Bool
is_comma (c ∷ []) = c == 44
is_comma letters = false

-- whether people may leave this literal out before this text: a comma before the end of a call
abbrev pub is_spare : List ℕ → List ℕ → Bool
is_spare letters text = is_comma letters && (first_of text == 41)

-- a literal, whose value is empty
abbrev pub literal : List ℕ → ByteLeaf
literal letters = record {
  text = λ v. letters;
  read = λ text. if is_spare letters (past_blanks text) then Ok ([], text) else letters_read letters text;
}

-- a leaf after letters, and one before letters
abbrev pub after : {V : Type 0} → List ℕ → Leaf V → Leaf V
after letters leaf = record {
  text = λ v. letters ++ leaf.text v;
  read = λ text. letters_read letters text >>= λ none. leaf.read none.1;
}

abbrev pub before : {V : Type 0} → List ℕ → Leaf V → Leaf V
before letters leaf = record {
  text = λ v. leaf.text v ++ letters;
  read = λ text. leaf.read text >>= λ v. letters_read letters v.1 >>= λ none. Ok (v.0, none.1);
}

-- the value of a digit, or 16 for another letter
abbrev pub digit_of : ℕ → ℕ
digit_of c = if nat_le 48 c && nat_lt c 58 then c - 48 else if nat_le 65 c && nat_lt c 71 then c - 55 else 16

-- whether a text begins with a digit
abbrev pub has_digit : ℕ → List ℕ → Bool
has_digit base [] = false
has_digit base (c ∷ cs) = nat_lt (digit_of (to_ascii_uppercase c)) base

-- whether a letter is a digit, or the `x` after a 0
abbrev pub is_of_number : ℕ → Bool
is_of_number c = nat_lt (digit_of (to_ascii_uppercase c)) 16 || (to_ascii_uppercase c == 88)

-- whether a text does not begin with such a letter
abbrev pub next_is_no : (ℕ → Bool) → List ℕ → Bool
next_is_no test [] = true
next_is_no test (c ∷ cs) = not (test c)

-- whether a text ends a value
abbrev pub ends_at : Class → List ℕ → Bool
ends_at Nobody text = true
ends_at Number text = next_is_no is_of_number text
ends_at Bytes text = next_is_no (λ c. is_of_number c || ((c == 44) || is_blank c)) text
ends_at (Clear stop) text = next_is_no (is_clear stop) text

-- the number of all digits at the start of a text, after digits with the value `n`, and the rest of the
-- text; none if the number is not below `limit`
abbrev pub digits_read : ℕ → ℕ → ℕ → List ℕ → Option (ℕ × List ℕ)
digits_read base limit n [] = Some (n, [])
digits_read base limit n (c ∷ cs) = if nat_lt (digit_of (to_ascii_uppercase c)) base
    then (if nat_lt (n * base + digit_of (to_ascii_uppercase c)) limit
    then digits_read base limit (n * base + digit_of (to_ascii_uppercase c)) cs else None)
    else Some (n, c ∷ cs)

-- a number below `limit`, and the rest of the text
abbrev pub number_read : ℕ → ℕ → List ℕ → Option (ℕ × List ℕ)
number_read base limit text =
    if has_digit base text then digits_read base limit 0 text else None

-- the rest of a text after `0x`
abbrev pub after_base : List ℕ → Option (List ℕ)
after_base [] = None
after_base (c ∷ []) = None
after_base (c ∷ d ∷ text) =
    if (c == 48) && (to_ascii_uppercase d == to_ascii_uppercase 120) then Some text else None

-- a number in decimal, or in hexadecimal, if that was found after `0x`
abbrev pub by_base : ℕ → List ℕ → Option (List ℕ) → Option (ℕ × List ℕ)
by_base limit text None = number_read 10 limit text
by_base limit text (Some rest) = number_read 16 limit rest

-- a number in decimal, or in hexadecimal after `0x`
abbrev pub any_number : ℕ → List ℕ → Option (ℕ × List ℕ)
any_number limit text = by_base limit text (after_base text)

-- a number in hexadecimal, and in decimal
abbrev pub hexadecimal_or : Expected → ℕ → Leaf ℕ
hexadecimal_or what limit = record {
  text = λ n. codes "0x" ++ hex n;
  read = λ text. expect what text (any_number limit (past_blanks text));
}

abbrev pub hexadecimal : ℕ → Leaf ℕ
hexadecimal limit = hexadecimal_or (expected.Number (limit - 1)) limit

abbrev pub decimal : ℕ → Leaf ℕ
decimal limit = record {
  text = λ n. digits 10 false n;
  read = λ text. expect (expected.Number (limit - 1)) text (any_number limit (past_blanks text));
}

-- one more than a number, in hexadecimal
abbrev pub next_number : ℕ → Leaf ℕ
next_number limit = mapped (λ n. n - 1) (λ n. n + 1)
    (only (λ n. nat_lt 0 n) (expected.NumberFromOne limit)
    (hexadecimal_or (expected.NumberFromOne limit) (limit + 1)))

-- a byte of two digits
abbrev pub pair_read : List ℕ → Option (ℕ × List ℕ)
pair_read [] = None
pair_read (a ∷ []) = None
pair_read (a ∷ b ∷ text) = if has_digit 16 (a ∷ []) && has_digit 16 (b ∷ [])
    then Some (digit_of (to_ascii_uppercase a) * 16 + digit_of (to_ascii_uppercase b), text) else None

-- a byte
abbrev pub pair : Leaf ℕ
pair = record {
  text = hex_two;
  read = λ text. expect (expected.Digits 2) text (pair_read text);
}

-- the texts of values, one after the other
abbrev pub many_text : {V : Type 0} → Leaf V → List V → List ℕ
many_text leaf [] = []
many_text leaf (v ∷ vs) = leaf.text v ++ many_text leaf vs

-- this many values
abbrev pub repeat_read : {V : Type 0} → Leaf V → ℕ → List ℕ → Read (List V)
repeat_read leaf zero text = Ok ([], text)
repeat_read leaf (suc count) text = do
  v ← leaf.read text
  vs ← repeat_read leaf count v.1
  Ok (v.0 ∷ vs.0, vs.1)

abbrev pub repeat : {V : Type 0} → ℕ → Leaf V → Leaf (List V)
repeat count leaf = record { text = many_text leaf; read = repeat_read leaf count }

-- a text from its digits on, which may follow `0x` where people write them
abbrev pub or_text : List ℕ → Option (List ℕ) → List ℕ
or_text text None = text
or_text text (Some rest) = rest

abbrev pub at_digits : List ℕ → List ℕ
at_digits text = or_text (past_blanks text) (after_base (past_blanks text))

-- a leaf that begins with a digit
abbrev pub from_digits : {V : Type 0} → Leaf V → Leaf V
from_digits leaf = record { text = leaf.text; read = λ text. leaf.read (at_digits text) }

-- a leaf that is printed with `0x`
abbrev pub based : {V : Type 0} → Leaf V → Leaf V
based leaf = printed (λ v. codes "0x" ++ leaf.text v) (from_digits leaf)

-- whether a text begins with two decimal digits
abbrev pub two_decimals : List ℕ → Bool
two_decimals [] = false
two_decimals (c ∷ cs) = has_digit 10 (c ∷ []) && has_digit 10 cs

-- a leaf that is printed with `0x`, where some programs print the hexadecimal digits alone: people may
-- leave out the `0x` only before a single decimal digit
abbrev pub marked : {V : Type 0} → Leaf V → Leaf V
marked leaf = record {
  text = leaf.text;
  read = λ text. if two_decimals (past_blanks text) then Err (stop_at text expected.Base) else leaf.read text;
}

-- this many bytes, forwards and backwards
abbrev pub pairs : ℕ → ByteLeaf
pairs count = printed hex_bytes (repeat count pair)

abbrev pub backwards : ℕ → ByteLeaf
backwards count = printed hex_back (mapped reverse reverse (pairs count))

-- this many values of a width, with letters before each
abbrev pub behind_each : List ℕ → ℕ → ByteLeaf → ℕ → ByteLeaf
behind_each letters width leaf zero = nothing
behind_each letters width leaf (suc count) = beside width (after letters leaf)
    (behind_each letters width leaf count)

-- one value more, with letters between each two
abbrev pub between : List ℕ → ℕ → ByteLeaf → ℕ → ByteLeaf
between letters width leaf count = beside width leaf (behind_each letters width leaf count)

-- bytes with letters between them
abbrev pub apart : List ℕ → ℕ → ByteLeaf
apart letters zero = nothing
apart letters (suc count) = from_digits (between letters 1 (pairs 1) count)

abbrev pub dashed : ℕ → ByteLeaf
dashed count = printed dashed_back (mapped reverse reverse (apart (codes "-") count))

-- a GUID
abbrev pub guid_parts : ByteLeaf
guid_parts = beside 4 (backwards 4) (beside 2 (after (codes "-") (backwards 2)) (beside 2 (after
    (codes "-") (backwards 2))
    (beside 2 (after (codes "-") (pairs 2)) (after (codes "-") (pairs 6)))))

abbrev pub guid : ByteLeaf
guid = printed guid_text (from_digits guid_parts)

-- a number in the bytes of a field, the low byte first
abbrev pub low_bytes : ℕ → ℕ → List ℕ
low_bytes zero n = []
low_bytes (suc count) n = n % 256 ∷ low_bytes count (n / 256)

abbrev pub in_bytes : ℕ → Leaf ℕ → ByteLeaf
in_bytes width leaf = mapped (low_bytes width) little_endian leaf

-- an address of IP version 4, and one of version 6 in eight groups of four digits
abbrev pub ipv4 : ByteLeaf
ipv4 = between (codes ".") 1 (in_bytes 1 (decimal 256)) 3

abbrev pub groups : ByteLeaf
groups = from_digits (between (codes ":") 2 (pairs 2) 7)

-- what is read in one way, or else in another
abbrev pub or_read : {V : Type 0} → Read V → Option (V × List ℕ) → Read V
or_read (Ok read) other = Ok read
or_read (Err stop) None = Err stop
or_read (Err stop) (Some read) = Ok read

abbrev pub or_else : {V : Type 0} → Leaf V → (List ℕ → Option (V × List ℕ)) → Leaf V
or_else leaf other = record { text = leaf.text; read = λ text. or_read (leaf.read text) (other text) }

-- whether a letter ends an address: a comma, the end of a call, a bracket, or a blank
abbrev pub ends_address : ℕ → Bool
ends_address c = (c == 44) || ((c == 41) || ((c == 93) || is_blank c))

-- the letters before the first that ends an address, and the rest of the text
abbrev pub address_run : List ℕ → List ℕ × List ℕ
address_run [] = ([], [])
address_run (c ∷ cs) = if ends_address c then ([], c ∷ cs)
    else (c ∷ (address_run cs).0, (address_run cs).1)

-- the octets of the address that a whole text encodes (RFC 4291, section 2.2); the longest text is that of
-- eight segments, of which an address of version 4 stands for the last two
unfoldable pub address_octets : List ℕ → Option (List ℕ)
address_octets text = if nat_le (length text) 45
    then option_map octets_of (whole_value (read_ipv6 text)) else None

abbrev pub bare_address : List ℕ → Option (List ℕ × List ℕ)
bare_address text = option_map (λ octets. (octets, (address_run text).1))
    (address_octets (address_run text).0)

-- an address before a closing bracket
abbrev pub if_closed : List ℕ → Read (List ℕ) → Option (List ℕ × List ℕ)
if_closed octets (Err stop) = None
if_closed octets (Ok none) = Some (octets, none.1)

abbrev pub before_bracket : Option (List ℕ × List ℕ) → Option (List ℕ × List ℕ)
before_bracket None = None
before_bracket (Some address) = if_closed address.0 (letters_read (codes "]") address.1)

-- an address in any form, perhaps in brackets
abbrev pub any_address : List ℕ → Option (List ℕ × List ℕ)
any_address text = if first_of (past_blanks text) == 91
    then before_bracket (bare_address (after_first (past_blanks text))) else bare_address (past_blanks text)

abbrev pub ipv6 : ByteLeaf
ipv6 = or_else groups any_address

-- a word: the bits of a number that count, their value, which is the number that it is read as, and
-- its letters
pub record Word : Type 0 where
  pub mask : ℕ
  pub number : ℕ
  pub letters : List ℕ

-- whether a word stands for a number
abbrev pub suits : ℕ → Word → Bool
suits n word = (word.mask == 0) || (bit_and n word.mask == word.number)

-- the first word of a list for a number
abbrev pub word_text : List Word → ℕ → List ℕ
word_text [] n = []
word_text (word ∷ words) n = if suits n word then word.letters else word_text words n

-- the number of a word, if the text begins with it, or else what was read otherwise
abbrev pub or_word : ℕ → Read (List ℕ) → Option (ℕ × List ℕ) → Option (ℕ × List ℕ)
or_word number (Ok read) other = Some (number, read.1)
or_word number (Err stop) other = other

abbrev pub word_read : List Word → List ℕ → Option (ℕ × List ℕ)
word_read [] text = None
word_read (word ∷ words) text =
    or_word word.number (letters_read word.letters text) (word_read words text)

-- whether texts differ at an index that both have, in either case
abbrev pub clash : List ℕ → List ℕ → Bool
clash [] others = false
clash (c ∷ cs) [] = false
clash (c ∷ cs) (d ∷ ds) = if to_ascii_uppercase c == to_ascii_uppercase d then clash cs ds else true

abbrev pub have_no_blank : List ℕ → Bool
have_no_blank letters = list_all (λ c. not (is_blank c)) letters

-- whether no word is a prefix of another, and none stands for the number of a later one
abbrev pub are_parted : Word → Word → Bool
are_parted word other = clash word.letters other.letters && not (suits other.number word)

abbrev pub are_sound_words : ℕ → List Word → Bool
are_sound_words limit [] = true
are_sound_words limit (word ∷ words) = (have_no_blank word.letters && (nat_lt word.number limit
    && suits word.number word))
    && (list_all (are_parted word) words && are_sound_words limit words)

-- whether the word for a number is read as that number
abbrev pub has_word : List Word → ℕ → Bool
has_word [] n = false
has_word (word ∷ words) n = if suits n word then word.number == n else has_word words n

abbrev pub IsNumber : ℕ → List Word → ℕ → Type 0
IsNumber limit words n = (n < limit) × (has_word words n ≡ true)

-- a word of a list
abbrev pub word_of : Expected → List Word → Leaf ℕ
word_of what words = record {
  text = word_text words;
  read = λ text. expect what text (word_read words text);
}

-- a number in decimal, or a word for 0
abbrev pub zero_text : List ℕ → ℕ → List ℕ
zero_text letters n = if n == 0 then letters else digits 10 false n

abbrev pub zero_read : List ℕ → ℕ → List ℕ → Option (ℕ × List ℕ)
zero_read letters limit text =
    or_word 0 (letters_read letters text) (any_number limit (past_blanks text))

abbrev pub or_zero : List ℕ → ℕ → Leaf ℕ
or_zero letters limit = record {
  text = zero_text letters;
  read = λ text. expect (expected.NumberOrDefault (limit - 1)) text (zero_read letters limit text);
}

-- the five bits that a letter of an EISA ID encodes, or 32
abbrev pub letter_of : ℕ → ℕ
letter_of c = if nat_le 64 c && nat_lt c 96 then c - 64 else 32

-- the three letters of an ID, and the rest of the text
abbrev pub id_letters : List ℕ → Option (ℕ × List ℕ)
id_letters (a ∷ b ∷ c ∷ text) = if nat_lt (letter_of (to_ascii_uppercase a)) 32
    && (nat_lt (letter_of (to_ascii_uppercase b)) 32 && nat_lt (letter_of (to_ascii_uppercase c)) 32)
    then Some (
      letter_of (to_ascii_uppercase a) * 1024 + letter_of
          (to_ascii_uppercase b) * 32 + letter_of (to_ascii_uppercase c),
      text,
    )
    else None
id_letters text = None

-- an ID of these letters with the digits after them, except 0, which has a text of its own
abbrev pub id_digits : Option (ℕ × List ℕ) → Option (ℕ × List ℕ)
id_digits None = None
id_digits (Some letters) = option_and_then (λ high. option_and_then (λ low.
    if letters.0 + (high.0 * 256 + low.0) * 65536 == 0 then None
    else Some (letters.0 + (high.0 * 256 + low.0) * 65536, low.1)) (pair_read high.1)) (pair_read letters.1)

abbrev pub eisa_read : List ℕ → Option (ℕ × List ℕ)
eisa_read text = or_word 0 (letters_read (codes "0") text) (id_digits (id_letters (past_blanks text)))

-- an EISA ID, or 0
abbrev pub eisa : Leaf ℕ
eisa = record { text = eisa_text; read = λ text. expect expected.Id text (eisa_read text) }

-- an ID whose text shows all of its bits
abbrev pub IsId : ℕ → Type 0
IsId n = (n < 2 ^ 32) × (eisa_bits n ≡ n)

-- values as long as a test of the text holds
abbrev pub many_read : {V : Type 0} → (List ℕ → Bool) → Leaf V → ℕ → List ℕ → Read (List V)
many_read test leaf zero text = Ok ([], text)
many_read test leaf (suc most) text = if test text
    then (both leaf (record {
      text = many_text leaf;
      read = λ text. many_read test leaf most text;
    })).read text
    else Ok ([], text)

abbrev pub many : {V : Type 0} → (List ℕ → Bool) → Leaf V → Leaf (List V)
many test leaf = record {
  text = many_text leaf;
  read = λ text. many_read test leaf (length text) text;
}

-- whether a byte is next
abbrev pub has_pair : List ℕ → Bool
has_pair text = has_digit 16 text

-- at least one value
abbrev pub some : List ℕ × List ℕ → Read (List ℕ)
some ([], rest) = Err (stop_at rest (expected.Digits 2))
some (byte ∷ bytes, rest) = Ok (byte ∷ bytes, rest)

-- whether a comma is next
abbrev pub has_comma : List ℕ → Bool
has_comma text = first_of (past_blanks text) == 44

-- bytes after a comma, or none
abbrev pub bytes_after_comma : ByteLeaf
bytes_after_comma = record {
  text = comma_bytes;
  read = λ text. if has_comma text
      then ((from_digits (many has_pair pair)).read (after_first (past_blanks text)) >>= some)
      else Ok ([], text);
}

-- the letters before the first that is `stop` or not printable
abbrev pub clear_run : ℕ → List ℕ → List ℕ × List ℕ
clear_run stop [] = ([], [])
clear_run stop (c ∷ cs) = if is_clear stop c
    then (c ∷ (clear_run stop cs).0, (clear_run stop cs).1) else ([], c ∷ cs)

-- letters up to `stop`
abbrev pub clear_text : ℕ → ByteLeaf
clear_text stop = record { text = shown_bytes; read = λ text. Ok (clear_run stop text) }

-- letters up to `stop`, as data that ends with a NUL, that has 32 bytes, or that is in UTF-16
abbrev pub name_text : ℕ → ByteLeaf
name_text stop = mapped (λ letters. letters ++ 0 ∷ []) until_nul (clear_text stop)

abbrev pub padded : List ℕ → List ℕ
padded letters = letters ++ replicate (32 - length letters) 0

abbrev pub padded_text : ℕ → ByteLeaf
padded_text stop = mapped padded (λ bytes. until_nul (take 32 bytes))
    (only (λ letters. nat_le (length letters) 32) (expected.Letters 32) (clear_text stop))

abbrev pub units_text : ℕ → ByteLeaf
units_text stop = printed utf16_text (mapped unit_bytes units_of_bytes (clear_text stop))

-- the strings of an ACPI device in the order of the text, and in that of the data, each with a NUL
abbrev pub id_strings : List ℕ → List (List ℕ)
id_strings bytes = hid_string bytes ∷ cid_string bytes ∷ uid_string bytes ∷ []

abbrev pub stored_strings : List (List ℕ) → List ℕ
stored_strings (hid ∷ cid ∷ uid ∷ []) = hid ++ (0 ∷ (uid ++ (0 ∷ (cid ++ (0 ∷ [])))))
stored_strings other = []

abbrev pub ids_text : ℕ → ByteLeaf
ids_text stop = printed id_strings_text (mapped stored_strings id_strings
    (both (before (codes ",") (clear_text 44)) (both (before (codes ",") (clear_text 44)) (both
    (clear_text stop) nothing))))

-- the string of _UID, as the data of a device without the other strings
abbrev pub uid_text : ℕ → ByteLeaf
uid_text stop = mapped (λ letters. stored_strings ([] ∷ [] ∷ letters ∷ [])) uid_string (clear_text stop)

-- a leaf, whose value people may leave out before the end of a call
abbrev pub spared : {V : Type 0} → Option V → Leaf V → Leaf V
spared None leaf = leaf
spared (Some spare) leaf = record {
  text = leaf.text;
  read = λ text. if is_spare (codes ",") (past_blanks text) then Ok (spare, text) else leaf.read text;
}
