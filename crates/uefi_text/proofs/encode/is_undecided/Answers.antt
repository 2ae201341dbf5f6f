use Rattle.std.proofs.Common.{◌∙◌, ap}
use Rattle.std.specs.List.{list_any}
use Rattle.uefi_text.proofs.Scanning.{not_found}
use Rattle.uefi_text.proofs.Utf8Bytes.{undecided_bytes}
use Rattle.uefi_text.specs.Scans.{is_deciding_byte}
use Rattle.uefi_text.proofs.encode.is_undecided.Goals as goal

pub returns : goal.returns
returns c =
    not_found c.has_deciding_byte.result _ (c.has_deciding_byte.ensures ∙ ap (list_any is_deciding_byte) c.as_bytes.ensures.value)
    (undecided_bytes c.args.text.now c.utf8.text)
