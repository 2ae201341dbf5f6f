-- The units that are written are the text of the names and its NUL.
use Rattle.std.proofs.Common.{arith}
use Rattle.std.proofs.lemmas.Grind.{common_steps}
use Rattle.uefi_path.specs.NamesLeft.{names_left}
use Rattle.uefi_path.specs.NormalForms.{normal_text}
use Rattle.uefi_path.proofs.KeptNames.{IsText-normal_text, plain_normal_text}
use Rattle.uefi_path.proofs.normal.join_names.Goals as goal

pub unwrap-requires : goal.unwrap-requires
unwrap-requires g c =
    let names = names_left c.args.names in
    (c.try_from_vec.ensures.made (normal_text names) (IsText-normal_text names c.requires.texts) (grind (arith, common_steps))).0

pub returns : goal.returns
returns g c = grind (arith, common_steps, IsText-normal_text, plain_normal_text)
