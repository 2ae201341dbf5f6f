-- A text of which no character is refused is stored as a string.
use Rattle.std.specs.Str.{chars}
use Rattle.std.proofs.lemmas.Result.{err_from_is_err_and}
use Rattle.std.proofs.lemmas.Str.{scalars-chars}
use Rattle.uefi_text.proofs.Accepting.{from_str-memory}
use Rattle.uefi_text.proofs.Texts.{IsString-made, IsText-chars}
use Rattle.uefi_text.proofs.strings.owned_strs.CString16.try_from_str.Goals as goal

pub invariant_of-result : goal.invariant_of-result
invariant_of-result g c =
    let text = c.args.text.now in
    let made = c.in_ok-units.ensures in
    IsString-made c.in_ok-units.units.items (chars text) made.ok (IsText-chars (chars text) (scalars-chars text c.utf8.text) made.accepted)

pub returns-clause-is_text : goal.returns-clause-is_text
returns-clause-is_text g c =
    let text = c.args.text.now in
    IsText-chars (chars text) (scalars-chars text c.utf8.text) c.in_ok-units.ensures.accepted

pub returns-in_err-units-clause-memory : goal.returns-in_err-units-clause-memory
returns-in_err-units-clause-memory g c =
    let error = err_from_is_err_and c.from_residual.result c.from_residual.ensures.1 in
    let cs = chars c.args.text.now in
    rw (error.1, error.2) (from_str-memory cs (scalars-chars c.args.text.now c.utf8.text) _ c.in_err-units.ensures.refusal)
