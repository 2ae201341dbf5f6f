-- The header, the new description and what stands after the old one are the load option.
use Rattle.std.proofs.Common.{◌≡◌, ◌∙◌, ◌++◌, ap, sym, take}
use Rattle.uefi_text.specs.UnitBytes.{unit_bytes}
use Rattle.uefi_text.specs.Units.{nul_terminated}
use Rattle.uefi_device_path.specs.LoadOptions.{entry_bytes}
use Rattle.uefi_device_path.specs.Views.{entry_of}
use Rattle.uefi_device_path.proofs.OptionBytes.{described_bytes, long-with_description}
use Rattle.uefi_device_path.proofs.load_option.LoadOption.put_described.Goals as goal

pub put_parts-requires-clause-whole : goal.put_parts-requires-clause-whole
put_parts-requires-clause-whole c =
    c.requires ∙ sym (long-with_description (entry_of c.args.self.now) c.args.units.now c.after_description-rest.result.now c.after_description-rest.ensures.bytes)

pub returns-clause-bytes : goal.returns-clause-bytes
returns-clause-bytes c =
    let entry = entry_of c.args.self.now in
    let units = unit_bytes (nul_terminated c.args.units.now) in
    let header : c.split_at.result.0.now ≡ take 6 (entry_bytes entry) = c.split_at.ensures.front ∙ ap (take 6) c.as_bytes.ensures.bytes in
    c.put_parts.ensures
    ∙ ap (λ k. k ++ (units ++ c.after_description-rest.result.now)) header
    ∙ ap (λ k. take 6 (entry_bytes entry) ++ (units ++ k)) c.after_description-rest.ensures.bytes
    ∙ described_bytes entry c.args.units.now
