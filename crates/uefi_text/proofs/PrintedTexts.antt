-- Characters as they are printed.
use Rattle.std.proofs.Common.{◌≡◌, ℕ, ◌+◌, ◌-◌, ◌<◌, All, List, [], ◌∷◌, ◌++◌, length, take, drop, get_or, ap, sym, ◌∙◌, append_assoc, arith}
use Rattle.std.proofs.lemmas.List.{append-nil, take_more}
use Rattle.std.proofs.lemmas.List.Elements.{All-drop, All-from_get_or, All-take, All-weaker}
use Rattle.std.proofs.lemmas.Grind.{common_steps}
use Rattle.std.proofs.lemmas.Str.{encodes-append}
use Rattle.std.proofs.Math.Seq.{take-add}
use Rattle.std.specs.Char.{IsScalar}
use Rattle.std.specs.Prelude.{encode_utf8, encode_utf8_all}
use Rattle.std.specs.Str.{IsUtf8}
use Rattle.uefi_text.proofs.Texts.{scalars-All}
use Rattle.uefi_text.specs.Units.{IsChar16}

pub encode_utf8_all-push : (cs : List ℕ) (c : ℕ) → encode_utf8_all (cs ++ c ∷ []) ≡ encode_utf8_all cs ++ encode_utf8 c
encode_utf8_all-push [] c = append-nil (encode_utf8 c)
encode_utf8_all-push (x ∷ xs) c =
    ap (λ (bs : List ℕ). encode_utf8 x ++ bs) (encode_utf8_all-push xs c) ∙ sym (append_assoc (encode_utf8 x) (encode_utf8_all xs) (encode_utf8 c))

-- the bytes of one character more
pub encode_utf8_all-take_more : (cs : List ℕ) (i : ℕ) → i < length cs
    → encode_utf8_all (take i cs) ++ encode_utf8 (get_or cs i 0) ≡ encode_utf8_all (take (i + 1) cs)
encode_utf8_all-take_more cs i h = sym (encode_utf8_all-push (take i cs) (get_or cs i 0)) ∙ ap encode_utf8_all (sym (take_more cs i 0 h))

-- the bytes of a block of characters, after those of the characters before it
pub encode_utf8_all-block : (cs : List ℕ) (i n : ℕ) → encode_utf8_all (take i cs) ++ encode_utf8_all (take n (drop i cs)) ≡ encode_utf8_all (take (i + n) cs)
encode_utf8_all-block cs i n = sym (encodes-append (take i cs) (take n (drop i cs))) ∙ ap encode_utf8_all (sym (take-add i n cs))

-- those that are written at a place are followed by those of a block that begins there
pub block_written : (cs bytes : List ℕ) (i n : ℕ) → bytes ≡ encode_utf8_all (take (i + n - i) (drop i cs))
    → encode_utf8_all (take i cs) ++ bytes ≡ encode_utf8_all (take (i + n) cs)
block_written cs bytes i n is =
    let end : i + (i + n - i) ≡ i + n = omega arith in
    ap (λ block. encode_utf8_all (take i cs) ++ block) is ∙ encode_utf8_all-block cs i (i + n - i) ∙ ap (λ k. encode_utf8_all (take k cs)) end

-- the bytes of a block are a Rust text
pub IsUtf8-block : (cs bytes : List ℕ) (i n : ℕ) → bytes ≡ encode_utf8_all (take n (drop i cs)) → All IsScalar cs → IsUtf8 bytes
IsUtf8-block cs bytes i n is are_scalars =
    (take n (drop i cs), (scalars-All _ (All-take IsScalar n _ (All-drop IsScalar i cs are_scalars)), sym is))

scalar-char16 : (u : ℕ) → IsChar16 u → IsScalar u
scalar-char16 u is = grind (arith, common_steps)

-- characters of UCS-2 are Unicode scalar values
pub scalars-characters : (us : List ℕ) → All IsChar16 us → All IsScalar us
scalars-characters us are = All-weaker IsChar16 IsScalar scalar-char16 us are

scalar-byte : (b : ℕ) → b < 256 → IsScalar b
scalar-byte b small = grind (arith, common_steps)

-- and so are those of Latin-1
pub scalars-latin1 : (bs : List ℕ) → ((k : ℕ) → get_or bs k 0 < 256) → All IsScalar bs
scalars-latin1 bs small = All-from_get_or IsScalar bs 0 (λ k h. scalar-byte (get_or bs k 0) (small k))
