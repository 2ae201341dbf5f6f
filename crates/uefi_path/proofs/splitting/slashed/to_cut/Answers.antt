-- What is left after one leading separator or slash is the canonical text.
use Rattle.std.proofs.Common.{◌≡◌, ℕ, List, ap, drop, length, subst, sym, ◌∙◌}
use Rattle.std.specs.List.{slice_range}
use Rattle.uefi_text.specs.Units.{IsText, IsTextUnit}
use Rattle.uefi_text.specs.Views.{units_of}
use Rattle.uefi_path.specs.Separators.{canonical, with_separators}
use Rattle.uefi_path.specs.Views.{path_text}
use Rattle.uefi_path.proofs.LastPieces.{to_the_end}
use Rattle.uefi_path.proofs.Joining.{All-canonical, All-slice_split}
use Rattle.uefi_path.proofs.SeparatorPlaces.{IsText-with_separators}
use Rattle.uefi_path.proofs.splitting.slashed.to_cut.Goals as goal

left : (us vs part : List ℕ) (start len : ℕ) → with_separators (drop start us) ≡ canonical vs → len ≡ length us
    → part ≡ slice_range us start len → with_separators part ≡ canonical vs
left us vs part start len same all cut = ap with_separators (cut ∙ to_the_end us start len all) ∙ same

pub returns-clause-texts : goal.returns-clause-texts
returns-clause-texts c =
    let start = c.canonical_start-start in
    let units = c.units.ensures in
    let text = c.as_slice-text.ensures.same ∙ c.to_cstr16.ensures.same in
    let whole = with_separators (path_text c.args.path) in
    let same = start.ensures.start ∙ ap (λ us. canonical (with_separators us)) (units ∙ text) in
    let here = left c.units.result.now whole (units_of c.part.result) start.result c.len-2.result same (c.len-2.ensures ∙ ap length (sym units))
    (c.part.ensures ∙ ap (λ us. slice_range us start.result c.len-2.result) (sym units)) in
    let is_text : IsText (path_text c.args.path) = subst IsText text c.as_slice-text.ensures.is_text in
    All-slice_split IsTextUnit (with_separators (units_of c.part.result))
    (subst IsText (sym here) (All-canonical IsTextUnit whole (IsText-with_separators (path_text c.args.path) is_text)))
