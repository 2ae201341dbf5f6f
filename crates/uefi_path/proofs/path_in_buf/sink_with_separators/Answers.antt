use Rattle.std.proofs.Common.{◌≡◌, ◌∙◌, [], arith, sym}
use Rattle.std.proofs.lemmas.Grind.{common_steps}
use Rattle.std.proofs.lemmas.List.{length-map}
use Rattle.uefi_text.proofs.SunkUnits.{sunk_whole}
use Rattle.uefi_text.specs.Units.{replaced}
use Rattle.uefi_text.specs.UnitTexts.{AreSunk}
use Rattle.uefi_path.specs.Separators.{separator, slash, with_separators}
use Rattle.uefi_path.proofs.path_in_buf.sink_with_separators.Goals as goal

pub returns-clause-all : goal.returns-clause-all
returns-clause-all c = λ first room.
    let from : c.from.result ≡ slash = grind (arith, common_steps) in
    let to : c.from-2.result ≡ separator = grind (arith, common_steps) in
    let buffer = c.args.buffer.now in
    let none : AreSunk [] buffer buffer c.args.len = record { count = first; written = grind (arith, common_steps) } in
    let sunk : AreSunk (with_separators c.args.units.now) buffer c.sink_replaced.new.buffer c.sink_replaced.result =
    rw (sym from, sym to) (c.sink_replaced.ensures [] buffer none) in
    sunk_whole _ _ _ _ sunk (length-map c.args.units.now (replaced slash separator) ∙ sym room)
