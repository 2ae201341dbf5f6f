use Rattle.std.proofs.Common.{List, [], arith, length, refl, sym, ℕ, ◌+◌, ◌∙◌, ◌∷◌, ◌≡◌, ◌≢◌}
use Rattle.std.proofs.lemmas.List.Splits.{length-slice_split}
use Rattle.std.specs.List.{count_by}
use Rattle.uefi_path.proofs.Joining.{AreComponents-components_of, components_of-only}
use Rattle.uefi_path.specs.Components.{components_of, pieces_between}
use Rattle.uefi_path.specs.Separators.{canonical, is_separator}
use Rattle.uefi_path.proofs.laws.split_once.Goals as goal
use Rattle.std.proofs.lemmas.Grind.{common_steps}

length-pieces_between : (us : List ℕ) → us ≢ []
    → length (pieces_between us) ≡ count_by is_separator us + 1
length-pieces_between [] non_empty = absurd (non_empty refl)
length-pieces_between (u ∷ us) non_empty = length-slice_split is_separator (u ∷ us)

pub returns-clause-split : goal.returns-clause-split
returns-clause-split c text = (components_of text, AreComponents-components_of text)

pub returns-clause-once : goal.returns-clause-once
returns-clause-once c text pieces others are_pieces are_others =
    components_of-only text pieces are_pieces ∙ sym (components_of-only text others are_others)

pub returns-clause-same : goal.returns-clause-same
returns-clause-same c text pieces = grind (arith, components_of-only, AreComponents-components_of)

pub returns-clause-none : goal.returns-clause-none
returns-clause-none c text pieces are_pieces is_empty =
    grind (arith, common_steps, components_of-only text pieces are_pieces)

pub returns-clause-count : goal.returns-clause-count
returns-clause-count c text pieces are_pieces non_empty =
    grind (arith, components_of-only text pieces are_pieces, length-pieces_between (canonical text) non_empty)
