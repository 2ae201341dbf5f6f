-- Those of a valid path are names.
use Rattle.std.proofs.Common.{ap, arith, length}
use Rattle.std.proofs.lemmas.List.{length-map}
use Rattle.uefi_text.specs.Units.{replaced}
use Rattle.uefi_path.specs.CutPieces.{slashed_left}
use Rattle.uefi_path.specs.Separators.{separator, slash, with_separators}
use Rattle.uefi_path.specs.Views.{path_text}
use Rattle.uefi_path.proofs.KeptNames.{good_names, names_no_longer, text_names}
use Rattle.uefi_path.proofs.names.NamesFromLast.of.Goals as goal

pub returns-clause-good : goal.returns-clause-good
returns-clause-good c = good_names (with_separators (path_text c.args.path)) _ c.requires c.to_cut.ensures.same

pub returns-clause-texts : goal.returns-clause-texts
returns-clause-texts c = text_names (with_separators (path_text c.args.path)) _ c.to_cut.ensures.same c.to_cut.ensures.texts

pub returns-clause-bound : goal.returns-clause-bound
returns-clause-bound c =
    let text = path_text c.args.path in
    omega (
      arith,
      names_no_longer (with_separators text) (slashed_left c.to_cut.result) c.to_cut.ensures.same,
      length-map text (replaced slash separator),
      c.as_slice-text.ensures.bound,
      ap length c.as_slice-text.ensures.same,
      ap length c.to_cstr16.ensures.same,
    )
