use Rattle.std.proofs.Common.{arith, ap, ◌∙◌, length-drop}
use Rattle.std.specs.List.{slice_index}
use Rattle.uefi_text.specs.PatternParts.{set_has}
use Rattle.uefi_text.specs.Views.{read_units}
use Rattle.uefi_text.proofs.SetPlaces.{bracket_read, end_after, nothing_left, open_at, set_at, set_from, unit_read}
use Rattle.uefi_text.proofs.patterns.set_takes.Goals as goal

pub loop-i-preserved : goal.loop-i-preserved
loop-i-preserved c =
    let us = read_units c.args.pattern.now in
    let unit = c.get-c.ensures.unit ∙ ap (λ us. slice_index us c.loop-i.i) c.loop-i.invariant.units in
    let ends = end_after us c.loop-i.i c.get-c.result (omega arith) unit c.if-c-eq-RIGHT_BRACKET.false in
    record {
      units = c.get-c.ensures.units ∙ c.loop-i.invariant.units;
      end = omega (arith, ends);
      decides = unit_read us c.loop-i.i c.get-c.result c.loop-i.takes c.takes_here-takes.result c.loop-i.earlier c.loop-i.before c.args.unit
          (set_has (set_from c.args.start us) c.args.unit) (omega arith) unit c.if-c-eq-RIGHT_BRACKET.false c.takes_here-takes.ensures c.loop-i.invariant.decides;
      cost = omega arith;
    }

pub returns-then-c-eq-RIGHT_BRACKET-clause-set : goal.returns-then-c-eq-RIGHT_BRACKET-clause-set
returns-then-c-eq-RIGHT_BRACKET-clause-set c =
    let us = read_units c.args.pattern.now in
    let unit = c.get-c.ensures.unit ∙ ap (λ us. slice_index us c.loop-i.i) c.loop-i.invariant.units in
    let read = bracket_read us c.loop-i.i c.get-c.result c.loop-i.takes c.loop-i.earlier c.loop-i.before c.args.unit
    (set_has (set_from c.args.start us) c.args.unit) (omega arith) unit c.if-c-eq-RIGHT_BRACKET.true c.loop-i.invariant.decides in
    let end = read.0 in
    set_at us c.args.start _ c.args.unit c.loop-i.takes (omega (arith, end)) (omega (arith, length-drop c.args.start us)) read.1

pub returns-clause-set : goal.returns-clause-set
returns-clause-set c =
    let us = read_units c.args.pattern.now in
    let past = nothing_left us c.loop-i.i (omega arith) in
    open_at us c.args.start (omega (arith, past, length-drop c.args.start us))
