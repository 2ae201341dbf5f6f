use Rattle.std.proofs.Common.{◌+◌, ◌∙◌, ap, sym}
use Rattle.std.specs.Prelude.{slice_range}
use Rattle.uefi_text.specs.Views.{units_of}
use Rattle.uefi_fat.specs.Trimming.{is_dot}
use Rattle.std.specs.List.{position}
use Rattle.uefi_fat.proofs.DottedNames.{base_alone, base_decides, both_ways, extension_decides}
use Rattle.uefi_fat.proofs.short_names.is_short_name.Goals as goal

pub returns-in-None : goal.returns-in-None
returns-in-None c =
    both_ways c.is_short_part.ensures
    (base_alone (units_of c.args.name) (ap (position is_dot) (sym c.units.ensures) ∙ sym c.first_dot.ensures.place ∙ c.in-None.is))

pub returns-then-is_short_part : goal.returns-then-is_short_part
returns-then-is_short_part c =
    extension_decides (units_of c.args.name) (units_of c.part-base.result) (units_of c.part-extension.result) c.in-Some.dot
    c.is_short_part-in-Some.result c.is_short_part-then-is_short_part.result
    (ap (position is_dot) (sym c.units.ensures) ∙ sym c.first_dot.ensures.place ∙ c.in-Some.is) c.part-base.ensures
    (c.part-extension.ensures ∙ ap (slice_range (units_of c.args.name) (c.in-Some.dot + 1)) c.len.ensures)
    c.is_short_part-in-Some.ensures c.is_short_part-then-is_short_part.ensures c.if-is_short_part.true

pub returns-else-is_short_part : goal.returns-else-is_short_part
returns-else-is_short_part c =
    base_decides (units_of c.args.name) (units_of c.part-base.result) c.in-Some.dot c.is_short_part-in-Some.result
    (ap (position is_dot) (sym c.units.ensures) ∙ sym c.first_dot.ensures.place ∙ c.in-Some.is) c.part-base.ensures
    c.is_short_part-in-Some.ensures c.if-is_short_part.false
