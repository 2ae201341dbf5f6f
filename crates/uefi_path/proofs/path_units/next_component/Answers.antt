-- The piece after the start is the first of those that are left.
use Rattle.std.proofs.Common.{◌≡◌, ◌+◌, ◌-◌, arith, length, length-drop, take, drop, ap, ◌∙◌, add-one}
use Rattle.std.proofs.lemmas.List.{take_all}
use Rattle.std.specs.List.{position_or_len}
use Rattle.uefi_path.specs.Separators.{is_separator}
use Rattle.uefi_path.proofs.TakenComponents.{first_piece}
use Rattle.uefi_path.proofs.path_units.next_component.Goals as goal

pub returns-clause-next : goal.returns-clause-next
returns-clause-next c =
    let text = c.args.units.now in
    let start = c.in-Some.start in
    let rest : take (length text - start) (drop start text) ≡ drop start text =
    take_all (length text - start) (drop start text) (omega (arith, length-drop start text)) in
    let count : c.piece_len-count.result ≡ position_or_len is_separator (drop start text) =
    c.piece_len-count.ensures.len ∙ ap (position_or_len is_separator) rest in
    rw count
    (rw (add-one (start + position_or_len is_separator (drop start text)))
    (c.in-Some.ensures.left.1 ∙ first_piece text start c.in-Some.ensures.left.0))
