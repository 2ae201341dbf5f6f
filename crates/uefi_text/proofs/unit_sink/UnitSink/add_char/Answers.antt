-- A character above U+FFFF is two units.
use Rattle.std.proofs.Common.{ℕ, List, [], ◌∷◌, ◌++◌, ◌+◌, ◌-◌, ◌/◌, subst, arith}
use Rattle.uefi_text.specs.UnitTexts.{AreSunk}
use Rattle.uefi_text.proofs.SunkUnits.{two_units}
use Rattle.uefi_text.proofs.unit_sink.UnitSink.add_char.Goals as goal

pub returns-clause-sunk : goal.returns-clause-sunk
returns-clause-sunk c = λ units old h.
    let code = c.args.character in
    let first = c.add_unit-2.ensures.sunk units old h in
    subst (λ (us : List ℕ). AreSunk us old c.add_unit-3.new.self.buffer.now c.add_unit-3.new.self.len)
    (two_units units code (omega arith))
    (c.add_unit-3.ensures.sunk (units ++ (0xD800 + (code - 0x1_0000) / 0x400) ∷ []) old first)
