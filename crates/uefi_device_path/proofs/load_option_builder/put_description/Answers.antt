use Rattle.std.proofs.Common.{◌∙◌, ap, sym, [], ◌∷◌, ◌++◌}
use Rattle.uefi_text.specs.UnitBytes.{unit_bytes}
use Rattle.uefi_text.proofs.UnitBytes.{unit_bytes-append}
use Rattle.uefi_device_path.proofs.load_option_builder.put_description.Goals as goal

pub returns : goal.returns
returns c =
    let text = c.split.ensures in
    let nul = c.copy_from_slice.ensures.after in
    ap (λ k. k ++ c.copy_from_slice.new.self) text ∙ ap (λ k. unit_bytes c.args.units.now ++ k) nul ∙ sym (unit_bytes-append c.args.units.now (0 ∷ []))
