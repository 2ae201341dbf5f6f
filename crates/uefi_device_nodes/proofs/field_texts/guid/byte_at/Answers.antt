-- The digits of a byte are those of its halves.
use Rattle.std.proofs.Common.{◌≡◌, ◌∙◌, ap, sym, ◌+◌, ◌*◌, ◌/◌, ◌%◌, ◌<◌, List, ℕ, [], ◌∷◌, slice_index, true, arith}
use Rattle.std.specs.Char.{to_ascii_uppercase}
use Rattle.std.specs.Fmt.{digit_glyph}
use Rattle.uefi_device_nodes.proofs.GuidTexts.{two_digits}
use Rattle.uefi_device_nodes.proofs.field_texts.guid.byte_at.Goals.{then-high-ge16-via-then-high-ge16, then-high-ge16-via-else-high-ge16+then-low-ge16}
use Rattle.uefi_device_nodes.proofs.field_texts.guid.byte_at.Goals as goal

pub returns-then-high-ge16-clause-none : goal.returns-then-high-ge16-clause-none
returns-then-high-ge16-clause-none c = λ byte small stands.
    let digits = sym (two_digits byte small) ∙ stands in
    let high = c.digit_of-high.ensures.only (byte / 16) (omega arith) (ap (λ (xs : List ℕ). slice_index xs 0) digits) in
    let low = c.digit_of-low.ensures.only (byte % 16) (omega arith) (ap (λ (xs : List ℕ). slice_index xs 1) digits) in
    elim c.then-high-ge16.branch [
      | then-high-ge16-via-then-high-ge16 w ↦ omega (arith, high, w.if-high-ge16.true)
      | then-high-ge16-via-else-high-ge16+then-low-ge16 w ↦ omega (arith, low, w.if-low-ge16.true)
    ]

pub returns-clause-some : goal.returns-clause-some
returns-clause-some c =
    let byte = c.digit_of-high.result * 16 + c.digit_of-low.result in
    let small : byte < 256 = omega (arith, c.if-high-ge16.false, c.if-low-ge16.false) in
    let high : byte / 16 ≡ c.digit_of-high.result = omega (arith, c.if-low-ge16.false) in
    let low : byte % 16 ≡ c.digit_of-low.result = omega (arith, c.if-low-ge16.false) in
    two_digits byte small ∙ ap (λ n. digit_glyph true n ∷ digit_glyph true (byte % 16) ∷ []) high
    ∙ ap (λ n. digit_glyph true c.digit_of-high.result ∷ digit_glyph true n ∷ []) low
    ∙ ap (λ n. n ∷ digit_glyph true c.digit_of-low.result ∷ []) (c.digit_of-high.ensures.is (omega arith))
    ∙ ap (λ n. to_ascii_uppercase (slice_index c.args.text.now c.args.place) ∷ n ∷ []) (c.digit_of-low.ensures.is (omega arith))
