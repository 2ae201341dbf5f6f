-- Eight characters more are the same.
use Rattle.std.proofs.Common.{◌≡◌, ◌≢◌, ◌+◌, ◌-◌, ◌++◌, ◌∙◌, List, ℕ, ap, arith, drop, sym, take}
use Rattle.std.specs.Str.{chars}
use Rattle.std.proofs.Math.Seq.{take-add}
use Rattle.std.proofs.lemmas.List.Elements.{All-weaker}
use Rattle.uefi_text.specs.FromStr.{IsAcceptedChar}
use Rattle.uefi_text.proofs.Decoding.{same_more}
use Rattle.uefi_text.proofs.encode.same_front.Goals as goal

no_nul : (unit : ℕ) → IsAcceptedChar unit → unit ≢ 0
no_nul unit is = λ zero_unit. omega (arith, is, zero_unit)

pub loop-end-preserved : goal.loop-end-preserved
loop-end-preserved c =
    let units = c.args.units.now in
    let len = c.loop-end.end in
    let eight = c.read_eight.new.eight in
    let so_far = c.loop-end.invariant in
    let read = c.in-Some.ensures in
    let rest = c.in-Some.others.now in
    let count : len + 8 - len ≡ 8 = omega arith in
    let same : take 8 (drop len units) ≡ eight = ap (λ n. take n (drop len units)) (sym count) ∙ c.are_these.ensures c.if-not-are_these.false in
    let more : take (len + 8) units ≡ take len units ++ eight = take-add len 8 units ∙ ap (λ (us : List ℕ). take len units ++ us) same in
    let is : chars c.args.text.now ≡ take len units ++ (eight ++ chars rest) = so_far.same ∙ ap (λ (cs : List ℕ). take len units ++ cs) read.0 in
    let all = same_more units eight len 8 (chars rest) (chars c.args.text.now) more (All-weaker IsAcceptedChar (λ unit. unit ≢ 0) no_nul eight read.2) so_far.no_nul is in
    record { within = omega arith; utf8 = read.1; same = all.0; no_nul = all.1 }
