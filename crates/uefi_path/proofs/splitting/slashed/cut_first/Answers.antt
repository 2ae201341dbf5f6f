use Rattle.std.proofs.Common.{ap, length, sym, ◌+◌, ◌∙◌}
use Rattle.std.specs.List.{slice_range, slice_split}
use Rattle.uefi_path.specs.Separators.{is_separator, with_separators}
use Rattle.uefi_path.proofs.Slashes.{cut_inside}
use Rattle.uefi_path.proofs.splitting.slashed.cut_first.Goals as goal

pub returns-clause-pieces : goal.returns-clause-pieces
returns-clause-pieces c =
    let end = c.first_end-end in
    let same = sym c.units.ensures in
    let len = c.len-2.result in
    ap (λ us. slice_split is_separator (with_separators us)) same
    ∙ cut_inside c.units.result.now _ _ end.result len end.ensures.within (λ all. c.if-end-len.false (all ∙ c.len-2.ensures ∙ sym c.len.ensures))
    (c.len-2.ensures ∙ ap length same)
    end.ensures.piece end.ensures.after (c.part-first.ensures ∙ ap (λ us. slice_range us 0 end.result) same)
    (c.part.ensures ∙ ap (λ us. slice_range us (end.result + 1) len) same)
