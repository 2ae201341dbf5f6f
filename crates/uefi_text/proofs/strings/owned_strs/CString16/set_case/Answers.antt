-- A string in either case is a string.
use Rattle.std.proofs.Common.{◌≡◌, ◌++◌, map, take, drop, length, arith}
use Rattle.std.proofs.lemmas.Grind.{common_steps}
use Rattle.std.proofs.lemmas.List.{take_at}
use Rattle.uefi_text.specs.Case.{in_case}
use Rattle.uefi_text.proofs.Caseless.{IsString-in_case}
use Rattle.uefi_text.proofs.strings.owned_strs.CString16.set_case.Goals as goal

pub invariant_of-self : goal.invariant_of-self
invariant_of-self g c =
    let units = c.set_case.new.units in
    let items = c.self.inside.units.items in
    let of_units : units ≡ map (in_case c.args.case) items = cc in
    let same_length : length units ≡ length items = grind (arith, common_steps) in
    let whole : take c.self.inside.units.len (units ++ drop (length units) items) ≡ units = take_at units _ _ (omega arith) in
    rw (whole, of_units) (IsString-in_case c.args.case items c.self.invariant)
