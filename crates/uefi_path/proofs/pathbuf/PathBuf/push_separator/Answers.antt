-- A separator is a plain block.
use Rattle.std.proofs.Common.{◌≡◌, ◌≢◌, [], ◌∷◌, ◌++◌, ◌∙◌, ap, arith, length}
use Rattle.std.proofs.lemmas.Grind.{common_steps}
use Rattle.std.proofs.lemmas.List.Elements.{All-cons, All-nil}
use Rattle.uefi_path.specs.Separators.{IsPlain, places_from, separator, slash}
use Rattle.uefi_path.proofs.Joining.{separator_is_plain}
use Rattle.uefi_path.proofs.SeparatorPlaces.{block_added}
use Rattle.uefi_path.proofs.pathbuf.PathBuf.push_separator.Goals as goal

pub invariant_of-self-2 : goal.invariant_of-self-2
invariant_of-self-2 g c =
    let string = c.self.inside.string in
    let places = c.self.inside.places.items in
    let plain : IsPlain (separator ∷ []) = All-cons (λ unit. unit ≢ slash) separator [] separator_is_plain (All-nil (λ unit. unit ≢ slash)) in
    let unit : c.from-2.result ≡ separator = grind (arith, common_steps) in
    block_added string places (separator ∷ []) _ _ c.self.invariant.0 c.self.invariant.1 plain
    (c.in_ok-add_block.ensures.text
    ∙ ap (λ us. us ++ c.from-2.result ∷ []) c.reserve.ensures
    ∙ ap (λ u. string ++ u ∷ []) unit)
    (c.in_ok-add_block.ensures.places
    ∙ ap (λ us. places ++ places_from (length us) (c.from-2.result ∷ [])) c.reserve.ensures
    ∙ ap (λ u. places ++ places_from (length string) (u ∷ [])) unit)
