use Rattle.std.proofs.Common.{◌≡◌, [], arith, refl, sym}
use Rattle.std.proofs.lemmas.Grind.{common_steps}
use Rattle.uefi_text.specs.UnitTexts.{AreSunk}
use Rattle.uefi_path.specs.Views.{path_text}
use Rattle.uefi_path.proofs.path_in_buf.sink_joined.Goals as goal

pub returns : goal.returns
returns c =
    let none : AreSunk [] c.args.buffer.now c.args.buffer.now 0 = record { count = refl; written = grind (arith, common_steps) } in
    let end = c.sink_part-end.ensures [] c.args.buffer.now none in
    let all = c.sink_pushed.ensures _ _ c.needs_separator_replaced-needs.ensures end in
    let text : c.to_u16_slice-text.result.now ≡ path_text c.args.first = grind (arith, common_steps) in
    let path : c.to_u16_slice.result.now ≡ path_text c.args.path = grind (arith, common_steps) in
    rw (sym text, sym path) all
