-- A string in which a character takes the place of another, from a place on, is a string.
use Rattle.std.proofs.Common.{◌≡◌, ◌≢◌, ◌≤◌, ◌++◌, map, take, drop, length, arith}
use Rattle.std.proofs.lemmas.Grind.{common_steps}
use Rattle.std.proofs.lemmas.List.{take_at}
use Rattle.uefi_text.specs.Units.{IsTextUnit, replaced, without_nul}
use Rattle.uefi_text.proofs.Texts.{IsString-replaced_from}
use Rattle.uefi_text.proofs.strings.owned_strs.CString16.replace_char_from.Goals as goal

pub invariant_of-self : goal.invariant_of-self
invariant_of-self g c =
    let units = c.replace_units_from.new.units in
    let items = c.self.inside.units.items in
    let of_units : units ≡ take c.args.start items ++ map (replaced c.from.result c.from-then-start-num_chars.result) (drop c.args.start items) = cc in
    let same_length : length units ≡ length items = grind (arith, common_steps) in
    let whole : take c.self.inside.units.len (units ++ drop (length units) items) ≡ units = take_at units _ _ (omega arith) in
    let no_nul : c.from.result ≢ 0 = grind (arith, common_steps) in
    let unit : IsTextUnit c.from-then-start-num_chars.result = grind (arith, common_steps) in
    let inside : c.args.start ≤ length (without_nul items) = grind (arith, common_steps) in
    rw (whole, of_units) (IsString-replaced_from c.from.result c.from-then-start-num_chars.result c.args.start items c.self.invariant inside no_nul unit)
