-- Eight characters more are written.
use Rattle.std.proofs.Common.{All, subst, ◌≡◌, ◌≤◌, ◌+◌, ◌++◌, ◌∙◌, List, ℕ, ap, arith, drop, length, sym, take}
use Rattle.std.specs.Str.{chars}
use Rattle.std.proofs.lemmas.List.{length-append, length-drop, length-take-le}
use Rattle.uefi_text.proofs.Decoding.{place_more, read_more}
use Rattle.std.proofs.lemmas.List.Elements.{All-append}
use Rattle.uefi_text.specs.FromStr.{IsAcceptedChar}
use Rattle.uefi_text.proofs.encode.write_front.Goals as goal

pub loop-units-preserved : goal.loop-units-preserved
loop-units-preserved c =
    let all = chars c.args.text.now in
    let len = c.loop-units.len in
    let so_far = c.loop-units.invariant in
    let eight = c.read_eight.new.eight in
    let read = c.in-Some.ensures in
    let rest = c.in-Some.others.now in
    let long : length eight ≡ 8 = omega arith in
    let to_come : take len all ++ (eight ++ chars rest) ≡ all = ap (λ (us : List ℕ). take len all ++ us) (sym read.0) ∙ so_far.to_come in
    let more = read_more all eight (chars rest) len 8 (sym long) so_far.count to_come in
    let front = length-take-le len all so_far.count in
    let room : len + 8 ≤ length c.args.units.now =
    omega (arith, c.loop-units-test.true, ap length so_far.written ∙ length-append (take len all) (drop len c.args.units.now), length-drop len c.args.units.now, front) in
    record {
      place = omega arith;
      utf8 = read.1;
      count = more.2;
      to_come = more.1;
      accepted = subst (All IsAcceptedChar) (sym more.0) (All-append IsAcceptedChar (take len all) eight so_far.accepted read.2);
      written = place_more (take len all) c.args.units.now eight _ _ len 8 (sym front) long room so_far.written c.write_lanes.ensures
          ∙ ap (λ (us : List ℕ). us ++ drop (len + 8) c.args.units.now) (sym more.0);
    }
