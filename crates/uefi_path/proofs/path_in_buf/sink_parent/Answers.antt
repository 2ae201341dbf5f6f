-- Each component is held back until the next one comes.
use Rattle.std.proofs.Common.{◌≡◌, ◌∷◌, ◌++◌, [], refl, ap, arith, length, subst, sym, All, ◌<◌}
use Rattle.std.specs.List.{fold}
use Rattle.std.proofs.lemmas.Grind.{common_steps}
use Rattle.uefi_text.specs.Views.{units_of}
use Rattle.uefi_text.specs.UnitTexts.{AreSunk}
use Rattle.uefi_path.specs.Components.{IsPiece}
use Rattle.uefi_path.specs.Parents.{all_but_last}
use Rattle.uefi_path.specs.Pushing.{appended, tail_of}
use Rattle.uefi_path.specs.Separators.{with_separators}
use Rattle.uefi_path.specs.Views.{components_left}
use Rattle.uefi_path.proofs.Drafts.{draft_done, draft_next}
use Rattle.uefi_path.proofs.path_in_buf.sink_parent.Goals as goal

pub loop-component-init : goal.loop-component-init
loop-component-init c =
    let all :
    units_of c.in_ok-last.last ∷ components_left c.into_iter-component-iterator.result
    ≡ components_left c.args.components =
    grind (arith, common_steps, c.in_ok-last.ensures.steps) in (
      [],
      record {
        sunk = record { count = refl; written = grind (arith, common_steps) };
        missing = refl;
        are_pieces = subst (All IsPiece) (sym all) c.requires;
        to_come = ap (λ pieces. fold appended [] (all_but_last pieces)) all;
      },
    )

pub loop-component-preserved : goal.loop-component-preserved
loop-component-preserved c =
    let so_far = c.loop-component in
    let text = so_far.invariant.0 in
    let part = c.sink_part-len in
    let sunk = subst (λ us. AreSunk (with_separators text ++ tail_of so_far.is_missing us) c.args.buffer.now part.new.buffer part.result)
    c.units.ensures (part.ensures (with_separators text) c.args.buffer.now so_far.invariant.1.sunk) in
    (_, draft_next text _ _ _ _ _ _ _ _ _ _ _ _ so_far.invariant.1 c.in-Some.ensures.steps sunk c.is_empty-is_missing.ensures)

pub returns : goal.returns
returns c =
    let many : 1 < length (components_left c.args.components) = grind (arith, common_steps) in
    draft_done _ _ _ _ _ _ _ _ c.loop-component.invariant.1 c.in-None.ensures.steps.0 c.requires many
