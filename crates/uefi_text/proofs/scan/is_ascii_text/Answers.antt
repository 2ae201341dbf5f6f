use Rattle.uefi_text.proofs.Scanning.{none_passes-is, not_found}
use Rattle.uefi_text.proofs.Utf8Bytes.{ascii_text_byte}
use Rattle.uefi_text.specs.Scans.{IsAsciiTextByte, is_no_ascii_text}
use Rattle.uefi_text.proofs.scan.is_ascii_text.Goals as goal

pub returns : goal.returns
returns c = not_found c.has_any.result _ c.has_any.ensures (none_passes-is is_no_ascii_text IsAsciiTextByte ascii_text_byte c.args.bytes.now)
