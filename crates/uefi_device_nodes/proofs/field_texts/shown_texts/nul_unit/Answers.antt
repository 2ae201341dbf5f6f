use Rattle.std.proofs.Common.{ap, sym, ◌∙◌, arith}
use Rattle.uefi_text.specs.Views.{items_of}
use Rattle.uefi_text.specs.Units.{is_nul}
use Rattle.uefi_device_nodes.proofs.Places.{first_place, no_place}
use Rattle.uefi_device_nodes.proofs.field_texts.shown_texts.nul_unit.Goals as goal

pub returns-then-unit_at-eq0-clause-place : goal.returns-then-unit_at-eq0-clause-place
returns-then-unit_at-eq0-clause-place c =
    first_place is_nul (items_of c.args.units.now) c.loop-place.place c.loop-place.invariant (omega arith) (ap is_nul (sym c.unit_at.ensures ∙ c.if-unit_at-eq0.true))

pub returns-clause-place : goal.returns-clause-place
returns-clause-place c = c.len.ensures ∙ no_place is_nul (items_of c.args.units.now) (λ k h. c.loop-place.invariant k (omega arith))
