use Rattle.std.proofs.Common.{◌∙◌, arith, sym}
use Rattle.std.proofs.lemmas.Bool.{true≢false}
use Rattle.uefi_text.specs.Views.{units_of}
use Rattle.uefi_fat.proofs.DottedNames.{short_part}
use Rattle.uefi_fat.proofs.short_names.is_short_part.Goals as goal

pub returns : goal.returns
returns c =
    short_part c.are_short_characters.result c.args.most (units_of c.args.part)
    (λ e. true≢false (sym (c.is_empty.ensures.1 e) ∙ c.if-is_empty.false)) (omega arith) c.are_short_characters.ensures
