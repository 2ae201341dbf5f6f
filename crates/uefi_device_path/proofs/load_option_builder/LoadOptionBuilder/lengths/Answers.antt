use Rattle.std.proofs.Common.{◌≢◌, length, arith}
use Rattle.std.proofs.lemmas.Grind.{common_steps}
use Rattle.uefi_device_path.specs.Views.{option_entry}
use Rattle.uefi_device_path.proofs.OptionBytes.{long-entry_bytes, no_nul, paths_are, some_paths}
use Rattle.uefi_device_path.proofs.load_option_builder.LoadOptionBuilder.lengths.Goals as goal

pub returns-in-Some-checked_add-clause-whole : goal.returns-in-Some-checked_add-clause-whole
unfolding option_entry
returns-in-Some-checked_add-clause-whole c =
    grind (arith, common_steps, long-entry_bytes (option_entry c.args.self.now))

pub returns-in-Some-checked_add-clause-entry : goal.returns-in-Some-checked_add-clause-entry
unfolding option_entry
returns-in-Some-checked_add-clause-entry c =
    let paths = c.args.self.now.paths.now in
    let some : length paths ≢ 0 = λ e. grind (arith, common_steps) in
    record { no_nul = no_nul c.args.self.now.description.now (grind (arith, common_steps)); are_paths = paths_are paths; some = some_paths paths some }

pub returns-in-Some-checked_add-clause-refusal : goal.returns-in-Some-checked_add-clause-refusal
unfolding option_entry
returns-in-Some-checked_add-clause-refusal c =
    let some : length c.args.self.now.paths.now ≢ 0 = λ e. grind (arith, common_steps) in
    grind (arith, common_steps, long-entry_bytes (option_entry c.args.self.now), some)

pub returns-in-None-clause-refusal : goal.returns-in-None-clause-refusal
unfolding option_entry
returns-in-None-clause-refusal c =
    let some : length c.args.self.now.paths.now ≢ 0 = λ e. grind (arith, common_steps) in
    grind (arith, common_steps, long-entry_bytes (option_entry c.args.self.now), some)
