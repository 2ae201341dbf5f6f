-- The description and its NUL stand after the header.
use Rattle.std.proofs.Common.{◌≡◌, ◌∙◌, ◌+◌, [], ◌∷◌, ap, length, length-append, arith}
use Rattle.uefi_device_path.specs.Views.{entry_of}
use Rattle.uefi_device_path.proofs.OptionBytes.{long-entry_bytes}
use Rattle.uefi_device_path.proofs.load_option.LoadOption.after_description.Goals as goal

pub overflow_mul-len : goal.overflow_mul-len
overflow_mul-len c =
    let entry = entry_of c.args.self.now in
    let long : length c.as_bytes.result.now ≡ _ = ap length c.as_bytes.ensures.bytes ∙ long-entry_bytes entry in
    let units : c.len-len.result ≡ length entry.description + 1 = c.len-len.ensures ∙ ap length c.description_units.ensures.units ∙ length-append entry.description (0 ∷ []) in
    omega (arith, long, units)

pub overflow_add-len : goal.overflow_add-len
overflow_add-len c =
    let entry = entry_of c.args.self.now in
    let long : length c.as_bytes.result.now ≡ _ = ap length c.as_bytes.ensures.bytes ∙ long-entry_bytes entry in
    let units : c.len-len.result ≡ length entry.description + 1 = c.len-len.ensures ∙ ap length c.description_units.ensures.units ∙ length-append entry.description (0 ∷ []) in
    omega (arith, long, units)

pub split_at-requires : goal.split_at-requires
split_at-requires c =
    let entry = entry_of c.args.self.now in
    let long : length c.as_bytes.result.now ≡ _ = ap length c.as_bytes.ensures.bytes ∙ long-entry_bytes entry in
    let units : c.len-len.result ≡ length entry.description + 1 = c.len-len.ensures ∙ ap length c.description_units.ensures.units ∙ length-append entry.description (0 ∷ []) in
    omega (arith, long, units)
