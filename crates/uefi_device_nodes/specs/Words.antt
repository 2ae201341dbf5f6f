-- Words that stand for numbers.
use Rattle.std.specs.Prelude.{ℕ, Bool, ◌==◌, ◌||◌, bit_and, if◌then◌else◌, List, [], ◌∷◌, map}
use Rattle.uefi_device_nodes.specs.Parts.{packed_text}
use Rattle.uefi_device_nodes.specs.declared.node_table.parts.Text.{Text}
use Rattle.uefi_device_nodes.specs.declared.node_table.words.TheConstants.{PARITY, STOP_BITS, DIGESTS, LOGIN, PROTOCOL}
use Rattle.uefi_device_nodes.specs.declared.node_table.words.Words.{Words}
use Rattle.uefi_device_nodes.specs.declared.node_table.words.Words.TheVariants.{Parity, StopBits, Digests, Login, Protocol}
use Rattle.uefi_device_nodes.specs.declared.node_table.words.WordOf.{WordOf}

-- a word: the bits of a number that count, their value, and the text
pub record Word : Type 0 where
  pub mask : ℕ
  pub number : ℕ
  pub text : List ℕ

-- a packed word, unpacked
abbrev pub as_word : WordOf ℕ Text → Word
as_word w = record { mask = w.mask; number = w.number; text = packed_text w.text }

-- a word in the source of the table
abbrev pub const_word : WordOf ℕ (record { now : List ℕ }) → Word
const_word w = record { mask = w.mask; number = w.number; text = w.text.now }

-- the words of a list
unfoldable pub words_of : Words → List Word
words_of Parity = map const_word PARITY.now
words_of StopBits = map const_word STOP_BITS.now
words_of Digests = map const_word DIGESTS.now
words_of Login = map const_word LOGIN.now
words_of Protocol = map const_word PROTOCOL.now

-- whether a word stands for a number
abbrev pub suits : ℕ → Word → Bool
suits n word = (word.mask == 0) || (bit_and n word.mask == word.number)

-- the first word for a number, or an empty text
abbrev pub word_text : List Word → ℕ → List ℕ
word_text [] n = []
word_text (word ∷ words) n = if suits n word then word.text else word_text words n
