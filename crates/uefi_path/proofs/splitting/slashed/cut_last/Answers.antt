use Rattle.std.proofs.Common.{ap, length, sym, ◌-◌, ◌∙◌}
use Rattle.std.specs.List.{slice_range, slice_split}
use Rattle.uefi_path.specs.Separators.{is_separator, with_separators}
use Rattle.uefi_path.proofs.Slashes.{cut_back_inside}
use Rattle.uefi_path.proofs.splitting.slashed.cut_last.Goals as goal

pub returns-clause-pieces : goal.returns-clause-pieces
returns-clause-pieces c =
    let start = c.last_start-start in
    let same = sym c.units.ensures in
    ap (λ us. slice_split is_separator (with_separators us)) same
    ∙ cut_back_inside c.units.result.now _ _ start.result c.len.result start.ensures.within c.if-start-eq0.false
    (c.len.ensures ∙ ap length same) start.ensures.piece start.ensures.after
    (c.part-last.ensures ∙ ap (λ us. slice_range us start.result c.len.result) same)
    (c.part.ensures ∙ ap (λ us. slice_range us 0 (start.result - 1)) same)
