use Rattle.uefi_device_nodes.proofs.ShownFields.{ascii_shown, bytes_shown, joined_shown, names_shown, numbers_shown, units_shown}
use Rattle.uefi_device_nodes.proofs.field_texts.field_laws.fields_are_shown.Goals as goal

pub returns-clause-joined : goal.returns-clause-joined
returns-clause-joined c = joined_shown

pub returns-clause-ascii : goal.returns-clause-ascii
returns-clause-ascii c = ascii_shown

pub returns-clause-numbers : goal.returns-clause-numbers
returns-clause-numbers c = numbers_shown

pub returns-clause-bytes : goal.returns-clause-bytes
returns-clause-bytes c = bytes_shown

pub returns-clause-names : goal.returns-clause-names
returns-clause-names c = names_shown

pub returns-clause-units : goal.returns-clause-units
returns-clause-units c = units_shown
