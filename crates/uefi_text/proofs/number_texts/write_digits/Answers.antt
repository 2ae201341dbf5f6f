-- The last digit of what is left stands before the others.
use Rattle.std.proofs.Common.{◌≡◌, ◌∙◌, ap, sym, suc, ◌+◌, ◌-◌, ◌<◌, ◌^◌, ◌/◌, ◌%◌, ◌++◌, ◌∷◌, [], List, ℕ, append_assoc, drop, length, nat_lt, slice_set, subst, arith}
use Rattle.std.proofs.lemmas.List.{append-nil, drop-set, drop_all, length-set}
use Rattle.std.specs.Fmt.{digit_glyph, digits}
use Rattle.uefi_text.proofs.Numerals.{digits_last, digits_more, less_room}
use Rattle.uefi_text.proofs.number_texts.write_digits.Goals as goal

pub loop-rest-init : goal.loop-rest-init
loop-rest-init c =
    let all = digits c.args.base (nat_lt 10 c.args.base) c.args.n in
    record {
      within = omega arith;
      long = c.told-buffer;
      fits = omega (arith, c.ranges.n.fits);
      so_far = ap (λ (ds : List ℕ). all ++ ds) (drop_all 64 c.args.buffer.now (omega (arith, c.told-buffer))) ∙ append-nil all;
    }

pub loop-rest-preserved : goal.loop-rest-preserved
loop-rest-preserved c =
    let l = c.loop-rest in
    let base = c.args.base in
    let up = nat_lt 10 base in
    let less = less_room base up c.requires.some l.start l.rest c.loop-rest-test.true l.invariant.fits in
    let next : l.start - 1 + 1 ≡ l.start = omega (arith, less.0) in
    let room : suc (l.start - 1) ≡ l.start = omega (arith, less.0) in
    let within : l.start < length l.buffer = omega (arith, l.invariant.within, l.invariant.long) in
    record {
      within = omega (arith, l.invariant.within);
      long = length-set l.buffer l.start c.digit.result ∙ l.invariant.long;
      fits = subst (λ (k : ℕ). l.rest / base < 2 ^ k) (sym room) less.1;
      so_far = ap (λ (k : ℕ). digits base up (l.rest / base) ++ drop k (slice_set l.buffer l.start c.digit.result)) next
          ∙ ap (λ (ds : List ℕ). digits base up (l.rest / base) ++ ds) (drop-set l.buffer l.start c.digit.result within)
          ∙ ap (λ (d : ℕ). digits base up (l.rest / base) ++ d ∷ drop (l.start + 1) l.buffer) c.digit.ensures
          ∙ sym (append_assoc (digits base up (l.rest / base)) (digit_glyph up (l.rest % base) ∷ []) (drop (l.start + 1) l.buffer))
          ∙ ap (λ (ds : List ℕ). ds ++ drop (l.start + 1) l.buffer) (digits_more base up c.requires.some l.rest c.loop-rest-test.true (omega arith))
          ∙ l.invariant.so_far;
    }

pub returns-clause-digits : goal.returns-clause-digits
returns-clause-digits c =
    let l = c.loop-rest in
    let base = c.args.base in
    let up = nat_lt 10 base in
    let within : l.start < length l.buffer = omega (arith, l.invariant.within, l.invariant.long) in
    drop-set l.buffer l.start c.digit-2.result within
    ∙ ap (λ (d : ℕ). d ∷ drop (l.start + 1) l.buffer) c.digit-2.ensures
    ∙ ap (λ (ds : List ℕ). ds ++ drop (l.start + 1) l.buffer) (sym (digits_last base up c.requires.some l.rest c.loop-rest-test.false))
    ∙ l.invariant.so_far
