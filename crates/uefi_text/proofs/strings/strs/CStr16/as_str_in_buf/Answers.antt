-- Each block follows those before it.
use Rattle.std.proofs.Common.{◌≡◌, ◌<◌, ◌+◌, ◌-◌, ◌++◌, ◌∙◌, ℕ, List, append_assoc, ap, get_or, length, take, drop, subst, arith}
use Rattle.std.specs.Prelude.{encode_utf8_all, slice_range}
use Rattle.std.proofs.lemmas.List.{get_or-drop, get_or-take, length-drop, length-take, take-take}
use Rattle.uefi_text.proofs.PrintedTexts.{encode_utf8_all-block}
use Rattle.uefi_text.specs.Views.{text_of, units_of}
use Rattle.uefi_text.proofs.Values.{on_err}
use Rattle.uefi_text.proofs.strings.strs.CStr16.as_str_in_buf.Goals as goal

-- a sink that holds what stands before and some bytes, and then others
joined : (before old new : List ℕ) (text : List ℕ) (start n : ℕ) → old ≡ before ++ encode_utf8_all (take start text)
    → new ≡ old ++ encode_utf8_all (take n (drop start text)) → new ≡ before ++ encode_utf8_all (take (start + n) text)
joined before old new text start n so_far more =
    more ∙ ap (λ (bytes : List ℕ). bytes ++ encode_utf8_all (take n (drop start text))) so_far
    ∙ append_assoc before (encode_utf8_all (take start text)) (encode_utf8_all (take n (drop start text)))
    ∙ ap (λ (bytes : List ℕ). before ++ bytes) (encode_utf8_all-block text start n)

-- the characters of a block
block : (text all part : List ℕ) (start n : ℕ) → all ≡ text → part ≡ slice_range all start (start + n) → part ≡ take n (drop start text)
block text all part start n same is =
    let count : start + n - start ≡ n = omega arith in
    is ∙ ap (λ (us : List ℕ). slice_range us start (start + n)) same ∙ ap (λ k. take k (drop start text)) count

pub loop-start-preserved : goal.loop-start-preserved
loop-start-preserved g c =
    let text = text_of c.args.self.now in
    let start = c.loop-start.start in
    let n = c.min.result in
    let part = block text _ _ start n c.as_slice-characters.ensures.same c.part.ensures in
    record {
      within = omega (arith, c.len-in-loop-start.ensures, ap length c.as_slice-characters.ensures.same);
      taken = joined _ _ _ text start n c.loop-start.invariant.taken
          (c.in_ok-write_block_to.ensures.ok ∙ ap (λ (us : List ℕ). g.W.CharSink.text c.loop-start.buf ++ encode_utf8_all us) part);
    }

pub returns-in_err-write_block_to-clause-err : goal.returns-in_err-write_block_to-clause-err
returns-in_err-write_block_to-clause-err g c =
    let text = text_of c.args.self.now in
    let start = c.loop-start.start in
    let n = c.min.result in
    let part = block text _ _ start n c.as_slice-characters.ensures.same c.part.ensures in
    let refused = c.in_err-write_block_to.ensures.err in
    let k = refused.0 in
    let left : k < length (take n (drop start text)) = omega (arith, refused.1, ap length part) in
    let short : k < n = omega (arith, left, length-take n (drop start text)) in
    let inside : k < length (drop start text) = omega (arith, left, length-take n (drop start text)) in
    let bytes : take k (units_of c.part.result) ≡ take k (drop start text) = ap (take k) part ∙ take-take k n (drop start text) (omega (arith, short)) in
    let here : get_or (units_of c.part.result) k 0 ≡ get_or text (start + k) 0 =
    ap (λ (us : List ℕ). get_or us k 0) part ∙ get_or-take n (drop start text) k 0 short ∙ get_or-drop start text k 0 in
    on_err c.from_residual.result (
      start + k,
      omega (arith, inside, length-drop start text),
      joined _ _ _ text start k c.loop-start.invariant.taken
          (refused.2 ∙ ap (λ (us : List ℕ). g.W.CharSink.text c.loop-start.buf ++ encode_utf8_all us) bytes),
      subst (g.W.CharSink.may_refuse (g.W.CharSink.text c.write_block_to.new.sink)) here refused.3,
    )
