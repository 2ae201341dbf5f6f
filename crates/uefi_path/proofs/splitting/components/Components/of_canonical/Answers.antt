-- The pieces between the separators of a canonical text are the components, and there are no others.
use Rattle.std.proofs.Common.{[], ◌≡◌, arith, subst, sym, ◌∙◌}
use Rattle.std.proofs.lemmas.Grind.{common_steps}
use Rattle.std.proofs.lemmas.List.Elements.{All-nil}
use Rattle.uefi_text.specs.Units.{IsText, IsTextUnit}
use Rattle.uefi_text.specs.Views.{text_of, units_of}
use Rattle.uefi_path.specs.Views.{components_left, uncut_units}
use Rattle.uefi_path.proofs.Joining.{AreComponents-components_of, components_of-only, slice_split-canonical, All-canonical, All-slice_split}
use Rattle.uefi_text.proofs.Runs.{gives_each}
use Rattle.uefi_path.proofs.TakenComponents.{gives_no_nul}
use Rattle.uefi_path.proofs.splitting.components.Components.of_canonical.Goals as goal

pub returns-then-is_empty-clause-only : goal.returns-then-is_empty-clause-only
unfolding components_left
returns-then-is_empty-clause-only c = λ pieces components.
    let only = components_of-only (text_of c.args.string) pieces components in
    grind (arith, common_steps, c.if-is_empty.ensures, only)

pub returns-clause-components : goal.returns-clause-components
unfolding components_left
returns-clause-components c =
    let text = text_of c.args.string in
    let units = uncut_units c.args.rest in
    let non_empty : units ≡ [] → ⊥ = λ e. grind (arith, common_steps, c.if-is_empty.ensures) in
    rw (slice_split-canonical text units c.requires non_empty) (AreComponents-components_of text)

pub returns-clause-only : goal.returns-clause-only
unfolding components_left
returns-clause-only c = λ pieces components.
    let text = text_of c.args.string in
    let units = uncut_units c.args.rest in
    let non_empty : units ≡ [] → ⊥ = λ e. grind (arith, common_steps, c.if-is_empty.ensures) in
    components_of-only text pieces components ∙ sym (slice_split-canonical text units c.requires non_empty)

pub returns-clause-texts : goal.returns-clause-texts
unfolding components_left
returns-clause-texts c =
    let text = text_of c.args.string in
    let is_text : IsText text = subst IsText c.as_slice-text.ensures.same c.as_slice-text.ensures.is_text in
    All-slice_split IsTextUnit (uncut_units c.args.rest)
    (subst IsText (sym c.requires) (All-canonical IsTextUnit text is_text))

pub returns-then-is_empty-clause-runs : goal.returns-then-is_empty-clause-runs
returns-then-is_empty-clause-runs c = gives_each units_of components_left _

pub returns-clause-runs : goal.returns-clause-runs
returns-clause-runs c = gives_each units_of components_left _

pub returns-then-is_empty-clause-no_nul : goal.returns-then-is_empty-clause-no_nul
unfolding components_left
returns-then-is_empty-clause-no_nul c = gives_no_nul _ (All-nil IsText)

pub returns-clause-no_nul : goal.returns-clause-no_nul
unfolding components_left
returns-clause-no_nul c = gives_no_nul _ (returns-clause-texts c)
