-- One more unit of the name is put.
use Rattle.std.proofs.Common.{◌∙◌, ap, sym, ◌<◌, ◌≤◌, [], length, take, drop, arith}
use Rattle.std.proofs.Output.{writes_in_calls_nil}
use Rattle.std.proofs.lemmas.Grind.{common_steps}
use Rattle.std.specs.Str.{encode_utf8_all}
use Rattle.uefi_path.specs.Separators.{separator, slash, with_separators}
use Rattle.uefi_text.proofs.PrintedTexts.{encode_utf8_all-push}
use Rattle.uefi_text.proofs.Puts.{puts_as, puts_two}
use Rattle.uefi_text.specs.Units.{replaced, without_nul}
use Rattle.uefi_text.specs.Views.{items_of}
use Rattle.uefi_device_path.proofs.BufferPaths.{units_all, units_more, units_none}
use Rattle.uefi_device_path.proofs.file_path.put_units.Goals as goal

pub loop-place-init : goal.loop-place-init
loop-place-init g c =
    let text = without_nul (items_of c.args.name.now) in
    record { put = puts_as _ _ _ _ _ (writes_in_calls_nil _ _) (sym (ap encode_utf8_all (units_none [] text c.args.start))) }

pub loop-place-preserved : goal.loop-place-preserved
loop-place-preserved g c =
    let text = without_nul (items_of c.args.name.now) in
    let start = c.args.start in
    let place = c.loop-place.place in
    let unit = c.unit_at.result in
    let within : place < length text = grind (arith, common_steps, c.loop-place-test.true, c.len-place-end.ensures) in
    let so_far = with_separators (drop start (take place text)) in
    record {
      put = puts_two _ _ _ _ _ _ _ c.loop-place.invariant.put c.put_unit.ensures
          (sym (encode_utf8_all-push so_far (replaced slash separator unit))
          ∙ ap encode_utf8_all (units_more [] text start place unit c.loop-place.auto.place within (sym c.unit_at.ensures.unit)));
    }

pub returns : goal.returns
returns g c =
    let text = without_nul (items_of c.args.name.now) in
    let long : length text ≤ c.loop-place.place = grind (arith, common_steps, c.loop-place-test.false, c.len-place-end.ensures) in
    puts_as _ _ _ _ _ c.loop-place.invariant.put (ap encode_utf8_all (units_all [] text c.args.start c.loop-place.place long))
