use Rattle.std.proofs.Common.{All, arith, subst, sym, ◌∙◌}
use Rattle.uefi_path.specs.ComponentIndices.{indexed_units, indices_left}
use Rattle.uefi_path.specs.Views.{components_left}
use Rattle.uefi_text.specs.Units.{IsText}
use Rattle.uefi_path.proofs.TakenComponents.{begin_at_places, count_placed, pieces_placed}
use Rattle.uefi_text.proofs.Runs.{gives_each}
use Rattle.uefi_path.proofs.Joining.{AreComponents-components_of}
use Rattle.uefi_path.proofs.splitting.component_indices.ComponentIndices.of.Goals as goal

-- the text from the first place on
begins : goal.returns-clause-places
unfolding indices_left
begins c = grind (arith, begin_at_places, AreComponents-components_of)

pub returns-clause-places : goal.returns-clause-places
returns-clause-places c = begins c

pub returns-clause-components : goal.returns-clause-components
unfolding indices_left
returns-clause-components c = pieces_placed _ (components_left c.args.components) ∙ c.requires.same

pub returns-clause-texts : goal.returns-clause-texts
unfolding indices_left
returns-clause-texts c = subst (All IsText) (sym (pieces_placed c.canonical_start-place.result (components_left c.args.components))) c.requires.texts

pub returns-clause-bound : goal.returns-clause-bound
unfolding indices_left
returns-clause-bound c = omega (arith, count_placed c.canonical_start-place.result (components_left c.args.components), c.requires.bound)

pub returns-clause-runs : goal.returns-clause-runs
returns-clause-runs c = gives_each indexed_units indices_left _
