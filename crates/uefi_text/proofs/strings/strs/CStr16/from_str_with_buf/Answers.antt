-- What was written and not refused is a string.
use Rattle.std.proofs.Common.{sym}
use Rattle.std.specs.Str.{chars}
use Rattle.std.proofs.lemmas.List.{length-append}
use Rattle.std.proofs.lemmas.Str.{scalars-chars}
use Rattle.uefi_text.proofs.Texts.{IsString-nul_terminated, IsText-chars, without_nul-nul_terminated}
use Rattle.uefi_text.proofs.Utf16.{accepted}
use Rattle.uefi_text.proofs.strings.strs.CStr16.from_str_with_buf.Goals as goal

pub slice_bounds-from_string-end : goal.slice_bounds-from_string-end
slice_bounds-from_string-end c =
    let written = c.in_ok-len.ensures in
    let text = accepted c.args.buf.now (chars c.args.input.now) (sym written.refusal) in
    rw (written.ok, written.buffer, text.1) (sym (length-append (chars c.args.input.now) _))

pub from_string-requires : goal.from_string-requires
from_string-requires c =
    let written = c.in_ok-len.ensures in
    let cs = chars c.args.input.now in
    let text = accepted c.args.buf.now cs (sym written.refusal) in
    rw (written.ok, written.buffer, text.1) (IsString-nul_terminated cs (IsText-chars cs (scalars-chars c.args.input.now c.utf8.input) text.0))

pub returns-clause-ok : goal.returns-clause-ok
returns-clause-ok c =
    let written = c.in_ok-len.ensures in
    let cs = chars c.args.input.now in
    let text = accepted c.args.buf.now cs (sym written.refusal) in
    rw (c.from_string.ensures, written.ok, written.buffer, text.1) (without_nul-nul_terminated cs)
