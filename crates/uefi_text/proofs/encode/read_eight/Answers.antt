-- Each character that is accepted is one unit.
use Rattle.std.proofs.Common.{◌≡◌, ◌+◌, ◌++◌, ◌∷◌, [], ◌∙◌, All, List, ℕ, ap, arith, set, subst, sym, take}
use Rattle.std.specs.Str.{chars}
use Rattle.std.specs.Str.Iter.{chars_rest}
use Rattle.std.proofs.lemmas.List.{length-set, take_all, take_more_set}
use Rattle.std.proofs.lemmas.List.Elements.{All-append, All-cons, All-nil}
use Rattle.std.proofs.lemmas.Str.{IsUtf8-past_char}
use Rattle.uefi_text.specs.FromStr.{IsAcceptedChar}
use Rattle.uefi_text.proofs.Texts.{chars_step}
use Rattle.uefi_text.proofs.encode.read_eight.Goals as goal

pub loop-place-preserved : goal.loop-place-preserved
loop-place-preserved c =
    let eight = c.loop-place.eight in
    let place = c.loop-place.place in
    let unit = c.from-character.result in
    let so_far = c.loop-place.invariant in
    let accepted : IsAcceptedChar unit = omega (arith, c.if-character-eq0.false) in
    let written : take (place + 1) (set eight place unit) ≡ take place eight ++ unit ∷ [] = take_more_set eight place unit (omega (arith, so_far.long)) in
    let read = chars_step (take place eight) _ _ _ _ so_far.utf8 c.in_ok-next.ensures.steps.0 so_far.to_come in
    record {
      long = length-set eight place unit ∙ so_far.long;
      utf8 = IsUtf8-past_char _ _ _ so_far.utf8 c.in_ok-next.ensures.steps.0;
      to_come = ap (λ (us : List ℕ). us ++ chars (chars_rest c.next.new.self)) (written ∙ ap (λ (u : ℕ). take place eight ++ u ∷ []) c.from-character.ensures) ∙ read;
      accepted = subst (All IsAcceptedChar) (sym written)
          (All-append IsAcceptedChar (take place eight) (unit ∷ []) so_far.accepted (All-cons IsAcceptedChar unit [] accepted (All-nil IsAcceptedChar)));
    }

pub returns : goal.returns
returns c =
    let eight = c.loop-place.eight in
    let so_far = c.loop-place.invariant in
    let whole : take c.loop-place.place eight ≡ eight = take_all c.loop-place.place eight (omega (arith, so_far.long)) in (
      sym (ap (λ (us : List ℕ). us ++ chars c.as_str.result.now) (sym whole) ∙ ap (λ bs. take c.loop-place.place eight ++ chars bs) c.as_str.ensures ∙ so_far.to_come),
      c.as_str.utf8,
      subst (All IsAcceptedChar) whole so_far.accepted,
    )
