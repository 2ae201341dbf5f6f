use Rattle.std.proofs.Common.{◌≢◌, []}
use Rattle.std.proofs.lemmas.List.Elements.{All-nil}
use Rattle.uefi_device_path.proofs.NamesInARow.{in_a_row, one_name, only_files, relative_pushed}
use Rattle.uefi_device_path.proofs.laws.file_paths.Goals as goal

pub returns-clause-one : goal.returns-clause-one
returns-clause-one c node file = one_name node file

pub returns-clause-others : goal.returns-clause-others
returns-clause-others c nodes = only_files nodes []

pub returns-clause-relative : goal.returns-clause-relative
returns-clause-relative c nodes relative = relative_pushed nodes [] relative

pub returns-clause-components : goal.returns-clause-components
returns-clause-components c nodes names =
    in_a_row c.join_components.ensures.joined c.join_components.ensures.full nodes [] (All-nil (λ component. component ≢ [])) names
