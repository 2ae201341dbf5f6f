-- The fields are those of a load option of the one path that the bytes begin with.
use Rattle.std.proofs.Common.{◌∙◌, subst, arith}
use Rattle.std.proofs.lemmas.Grind.{common_steps}
use Rattle.uefi_device_path.specs.LoadOptions.{Entry}
use Rattle.uefi_device_path.specs.OptionBuilding.{fields_fault}
use Rattle.uefi_device_path.specs.Views.{nodes_of, option_entry}
use Rattle.uefi_text.specs.Views.{text_of}
use Rattle.nardcorbel.specs.DevicePathBuffers.{written_entry}
use Rattle.nardcorbel.specs.Outcomes.{Shows}
use Rattle.nardcorbel.proofs.CallOutputs.{entry_by, fields_are}
use Rattle.nardcorbel.proofs.device_paths.building.nard_load_option_write.Goals as goal

pub returns : goal.returns
returns c =
    let entry = option_entry c.new-option.result in
    let shown = entry_by entry (fields_fault entry) c.args.buffer.now c.write.new.buffer c.write.result c.args.len.now c.args.fault.now c.report.result c.report.new.len c.report.new.fault
    c.report.ensures.fits c.write.ensures.refusal c.write.ensures.ok c.write.ensures.buffer c.report.ensures.shows in
    let is = fields_are entry c.args.attributes (text_of c.in-Ok.string) (nodes_of c.in-Ok-read_path.path) c.args.optional.now
    c.new-option.ensures.attributes (c.new-option.ensures.description ∙ grind (arith, common_steps)) c.new-option.ensures.paths c.new-option.ensures.optional in
    rw (c.in-Ok.ensures.ok, c.in-Ok-read_path.ensures.ok)
    (subst (λ (e : Entry). Shows (written_entry e) c.args.len.now c.args.fault.now c.args.buffer.now c.report.result c.report.new.len c.report.new.fault c.write.new.buffer) is shown)
