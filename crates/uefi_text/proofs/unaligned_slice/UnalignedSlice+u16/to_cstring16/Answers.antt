-- Items that are not refused are a string.
use Rattle.std.proofs.Common.{◌≡◌, sym, ◌∙◌, rules}
use Rattle.std.proofs.lemmas.List.{map-id}
use Rattle.std.proofs.lemmas.Result.{err_from_is_err_and}
use Rattle.uefi_text.specs.Views.{items_of}
use Rattle.uefi_text.proofs.Accepting.{with_nul-refused}
use Rattle.uefi_text.proofs.unaligned_slice.UnalignedSlice+u16.to_cstring16.Goals as goal

pub from_string-requires : goal.from_string-requires
from_string-requires g c =
    let same : c.in-Ok.units.items ≡ items_of c.args.self.now = sym (map-id c.in-Ok.units.items) ∙ c.in-Ok.ensures.ok in
    rw same (search rules)

pub returns-in_err-check_with_nul-clause-memory : goal.returns-in_err-check_with_nul-clause-memory
returns-in_err-check_with_nul-clause-memory g c =
    let error = err_from_is_err_and c.from_residual.result c.from_residual.ensures.1 in
    rw (error.1, error.2) (with_nul-refused (items_of c.args.self.now) _ c.in_err-check_with_nul.ensures.refusal)

pub returns-in-Ok-clause-ok : goal.returns-in-Ok-clause-ok
returns-in-Ok-clause-ok g c = c.from_string.ensures.same ∙ sym (map-id c.in-Ok.units.items) ∙ c.in-Ok.ensures.ok
