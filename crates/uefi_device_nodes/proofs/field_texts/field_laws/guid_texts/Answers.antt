use Rattle.uefi_device_nodes.proofs.GuidTexts.{guid_once, text_upper}
use Rattle.uefi_device_nodes.proofs.ShownFields.{guid_shown}
use Rattle.uefi_device_nodes.proofs.field_texts.field_laws.guid_texts.Goals as goal

pub returns-clause-read : goal.returns-clause-read
returns-clause-read c = text_upper

pub returns-clause-once : goal.returns-clause-once
returns-clause-once c = guid_once

pub returns-clause-shown : goal.returns-clause-shown
returns-clause-shown c = guid_shown
