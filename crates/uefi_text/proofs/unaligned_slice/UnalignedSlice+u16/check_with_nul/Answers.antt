-- Items of which the last alone is a NUL are a string.
use Rattle.std.proofs.Common.{◌≡◌, None, Ok, Err, Result, arith, refl}
use Rattle.std.specs.Result.{OnOk, result_err}
use Rattle.std.proofs.lemmas.Grind.{common_steps}
use Rattle.uefi_text.specs.Units.{IsString}
use Rattle.uefi_text.specs.Views.{items_of}
use Rattle.uefi_text.specs.FromSliceWithNul.{with_nul_refusal}
use Rattle.uefi_text.proofs.Deciding.{IsString-accepted}
use Rattle.uefi_text.proofs.unaligned_slice.UnalignedSlice+u16.check_with_nul.Goals as goal

-- where there is no error it is `Ok`
on_ok : {T E P : Type 0} (r : Result T E) → (result_err r ≡ None → P) → OnOk r P
on_ok (Ok value) unrefused = unrefused refl
on_ok (Err error) unrefused = tt

pub returns-clause-accepted : goal.returns-clause-accepted
returns-clause-accepted c = on_ok c.check_deciding_unit.result string
  where
    string : result_err c.check_deciding_unit.result ≡ None → IsString (items_of c.args.self.now)
    string e =
        let items = items_of c.args.self.now in
        let place = c.in-Some.place in
        let accepted : with_nul_refusal items ≡ None = grind (arith, common_steps) in
        IsString-accepted items c.in-Some.ensures.units accepted
