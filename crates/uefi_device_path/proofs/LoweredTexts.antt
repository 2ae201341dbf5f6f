-- Texts in lower case after a number of commas, part by part.
use Rattle.std.proofs.Common.{◌≡◌, ◌∙◌, ◌+◌, ℕ, Bool, true, false, cond, ◌==◌, List, [], ◌∷◌, ◌++◌, ap, refl, sym, arith}
use Rattle.std.proofs.lemmas.List.{append-nil}
use Rattle.std.proofs.lemmas.Str.{chars-append, chars-nil, chars_from_encodes, chars_past_char, encodes-append, IsUtf8-encode}
use Rattle.std.specs.Char.{IsScalar, to_ascii_lowercase}
use Rattle.std.proofs.lemmas.Grind.{common_steps}
use Rattle.std.proofs.lemmas.List.Elements.{All-cons, All-head, All-tail}
use Rattle.std.specs.Prelude.{All, encode_utf8, nat_lt}
use Rattle.std.specs.Str.{chars, encode_utf8_all, IsUtf8}
use Rattle.uefi_device_nodes.specs.ShownFields.{IsShown, IsShownChar}
use Rattle.uefi_device_nodes.proofs.ShownFields.{printable_char}
use Rattle.uefi_device_path.specs.LibefivarTexts.{all_lowered, cased, commas_after, commas_left, commas_to_come, lowered, lowered_text}

-- the commas that are still to come after two parts
pub commas_left-append : (n : ℕ) (a b : List ℕ) → commas_left (commas_left n a) b ≡ commas_left n (a ++ b)
commas_left-append n [] b = refl
commas_left-append n (c ∷ cs) b = commas_left-append (commas_after n c) cs b

-- the characters of two parts
pub all_lowered-append : (n : ℕ) (a b : List ℕ) → all_lowered n a ++ all_lowered (commas_left n a) b ≡ all_lowered n (a ++ b)
all_lowered-append n [] b = refl
all_lowered-append n (c ∷ cs) b = ap (λ rest. lowered n c ∷ rest) (all_lowered-append (commas_after n c) cs b)

-- no text
pub lowered_text-nil : (n : ℕ) → lowered_text n [] ≡ []
unfolding lowered_text
lowered_text-nil n = ap (λ (cs : List ℕ). encode_utf8_all (all_lowered n cs)) chars-nil

-- two texts
pub lowered_text-append : (n : ℕ) (a b : List ℕ) → IsUtf8 a
    → lowered_text n a ++ lowered_text (commas_left n (chars a)) b ≡ lowered_text n (a ++ b)
unfolding lowered_text
lowered_text-append n a b utf8 =
    sym (encodes-append (all_lowered n (chars a)) (all_lowered (commas_left n (chars a)) (chars b)))
    ∙ ap encode_utf8_all (all_lowered-append n (chars a) (chars b) ∙ ap (all_lowered n) (sym (chars-append a b utf8)))

-- the commas that are still to come after two texts
pub commas_left-texts : (n : ℕ) (a b : List ℕ) → IsUtf8 a
    → commas_left (commas_left n (chars a)) (chars b) ≡ commas_left n (chars (a ++ b))
commas_left-texts n a b utf8 =
    commas_left-append n (chars a) (chars b) ∙ ap (commas_left n) (sym (chars-append a b utf8))

-- the same of texts that are lowered or unchanged
pub cased-nil : (lowers : Bool) (n : ℕ) → cased lowers n [] ≡ []
cased-nil true n = lowered_text-nil n
cased-nil false n = refl

pub come-nil : (lowers : Bool) (n : ℕ) → commas_to_come lowers n [] ≡ n
come-nil true n = ap (commas_left n) chars-nil
come-nil false n = refl

pub cased-append : (lowers : Bool) (n : ℕ) (a b : List ℕ) → IsUtf8 a
    → cased lowers n a ++ cased lowers (commas_to_come lowers n a) b ≡ cased lowers n (a ++ b)
cased-append true n a b utf8 = lowered_text-append n a b utf8
cased-append false n a b utf8 = refl

pub come-append : (lowers : Bool) (n : ℕ) (a b : List ℕ) → IsUtf8 a
    → commas_to_come lowers (commas_to_come lowers n a) b ≡ commas_to_come lowers n (a ++ b)
come-append true n a b utf8 = commas_left-texts n a b utf8
come-append false n a b utf8 = refl

-- the characters of a text of one
one_char : (c : ℕ) → IsScalar c → chars (encode_utf8 c) ≡ c ∷ []
one_char c scalar =
    chars_past_char (encode_utf8 c) [] c (IsUtf8-encode c scalar) (sym (append-nil (encode_utf8 c))) ∙ ap (λ cs. c ∷ cs) chars-nil

-- one character
pub lowered_text-char : (n c : ℕ) → IsScalar c → lowered_text n (encode_utf8 c) ≡ encode_utf8 (lowered n c)
unfolding lowered_text
lowered_text-char n c scalar =
    ap (λ (cs : List ℕ). encode_utf8_all (all_lowered n cs)) (one_char c scalar) ∙ append-nil (encode_utf8 (lowered n c))

pub commas_left-char : (n c : ℕ) → IsScalar c → commas_left n (chars (encode_utf8 c)) ≡ commas_after n c
commas_left-char n c scalar = ap (commas_left n) (one_char c scalar)

-- the characters so far, and one more
pub lowered_more : (n : ℕ) (read : List ℕ) (c : ℕ)
    → encode_utf8_all (all_lowered n read) ++ encode_utf8 (lowered (commas_left n read) c)
    ≡ encode_utf8_all (all_lowered n (read ++ c ∷ []))
lowered_more n read c =
    ap (λ (rest : List ℕ). encode_utf8_all (all_lowered n read) ++ rest) (sym (append-nil (encode_utf8 (lowered (commas_left n read) c))))
    ∙ sym (encodes-append (all_lowered n read) (lowered (commas_left n read) c ∷ []))
    ∙ ap encode_utf8_all (all_lowered-append n read (c ∷ []))

-- a letter in lower case is shown as its upper case is
lower_shown : (c : ℕ) → IsShownChar c → IsShownChar (to_ascii_lowercase c)
lower_shown c shown = by (nat_lt c 65) (nat_lt c 91) refl refl
  where
    by : (a b : Bool) → nat_lt c 65 ≡ a → nat_lt c 91 ≡ b → IsShownChar (cond a c (cond b (c + 32) c))
    by true b p q = shown
    by false false p q = shown
    by false true p q = printable_char (c + 32) (grind (arith, common_steps))

one_shown : (n c : ℕ) → IsShownChar c → IsShownChar (lowered n c)
one_shown n c shown = by (n == 0)
  where
    by : (b : Bool) → IsShownChar (cond b (to_ascii_lowercase c) c)
    by true = lower_shown c shown
    by false = shown

all_shown : (n : ℕ) (cs : List ℕ) → All IsShownChar cs → All IsShownChar (all_lowered n cs)
all_shown n [] all = all
all_shown n (c ∷ cs) all =
    All-cons IsShownChar (lowered n c) (all_lowered (commas_after n c) cs) (one_shown n c (All-head IsShownChar c cs all))
    (all_shown (commas_after n c) cs (All-tail IsShownChar c cs all))

-- a text that is shown is shown in lower case, too
pub lowered_shown : (n : ℕ) (text : List ℕ) → IsUtf8 text → IsShown text → IsShown (lowered_text n text)
unfolding lowered_text
lowered_shown n text utf8 (cs, (all, is)) =
    let same : cs ≡ chars text = chars_from_encodes cs text utf8 (sym is) in
    (all_lowered n cs, (all_shown n cs all, ap (λ (l : List ℕ). encode_utf8_all (all_lowered n l)) (sym same)))
