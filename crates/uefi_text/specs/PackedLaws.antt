-- Proofs of the laws of packed numbers, for whatever implements them.
use Rattle.std.specs.Prelude.{All}
use Rattle.std.proofs.Common.{◌≡◌, ℕ, List, [], ◌∷◌, length, refl, sym, ◌∙◌, arith}
use Rattle.std.proofs.lemmas.List.Elements.{All-head, All-tail}
use Rattle.uefi_text.specs.Packed.{IsByte, EncodesOnce, little_endian}

-- lists of one length that encode the same number are the same
le_once : (xs ys : List ℕ) → length xs ≡ length ys
    → All IsByte xs → All IsByte ys → little_endian xs ≡ little_endian ys → xs ≡ ys
le_once [] [] same xs_bytes ys_bytes e = refl
le_once [] (y ∷ ys) same xs_bytes ys_bytes e = absurd (omega arith)
le_once (x ∷ xs) [] same xs_bytes ys_bytes e = absurd (omega arith)
le_once (x ∷ xs) (y ∷ ys) same xs_bytes ys_bytes e =
    let x_byte = All-head IsByte x xs xs_bytes in
    let y_byte = All-head IsByte y ys ys_bytes in
    let firsts : x ≡ y = omega arith in
    let others : little_endian xs ≡ little_endian ys = omega arith in
    let xs_rest = All-tail IsByte x xs xs_bytes in
    let ys_rest = All-tail IsByte y ys ys_bytes in
    let rests = le_once xs ys (omega arith) xs_rest ys_rest others in
    cc

pub encodes_once : (size : ℕ) → EncodesOnce size
encodes_once size xs ys xs_long ys_long = le_once xs ys (xs_long ∙ sym ys_long)
