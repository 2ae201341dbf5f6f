use Rattle.std.proofs.Common.{ℕ, List, ap, sym, ◌∙◌}
use Rattle.std.proofs.lemmas.Option.{slice_get-get_or, slice_get-map}
use Rattle.std.specs.Option.{option_map}
use Rattle.std.specs.List.{slice_get}
use denote.Bor.{Bor}
use Rattle.uefi_node_reader.proofs.exact.form_places.other_name.Goals as goal

pub returns : goal.returns
returns c =
    let names = c.other_names-names.result.now in
    let place = c.args.place in
    sym (ap (λ (l : List (List ℕ)). slice_get l place) (sym c.other_names-names.ensures)
    ∙ slice_get-map (λ (name : Bor (List ℕ)). name.now) names place
    ∙ ap (option_map (λ (name : Bor (List ℕ)). name.now)) (slice_get-get_or names place _ c.if-names-place.false))
