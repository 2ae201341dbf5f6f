-- The path that was read is the only one that the bytes begin with.
use Rattle.std.proofs.Common.{◌≡◌, arith, refl, subst, List, ℕ, Ok, Err, Result}
use Rattle.std.proofs.lemmas.Grind.{common_steps}
use Rattle.std.specs.Str.{encode_utf8_all}
use Rattle.uefi_device_path.specs.FilePaths.{file_path}
use Rattle.uefi_device_path.specs.Nodes.{Node}
use Rattle.uefi_device_path.specs.Views.{nodes_of}
use Rattle.uefi_device_path.specs.declared.errors.FilePathError.{FilePathError}
use Rattle.nardcorbel.specs.DevicePaths.{GivesFilePath, file_outcome}
use Rattle.nardcorbel.specs.Outcomes.{Shows}
use Rattle.nardcorbel.proofs.CallOutputs.{text_shown}
use Rattle.nardcorbel.proofs.device_paths.reading.nard_device_path_file_path.Goals as goal

pub returns-in-Ok-display_file_path-clause-path : goal.returns-in-Ok-display_file_path-clause-path
returns-in-Ok-display_file_path-clause-path c = λ nodes e.
    let same : nodes_of c.in-Ok.path ≡ nodes = cc (c.in-Ok.ensures.ok, e) in
    subst (λ (ns : List Node). (file : Result (List ℕ) FilePathError) × GivesFilePath ns file
    × Shows (file_outcome encode_utf8_all file) c.args.len.now c.args.fault.now c.args.buffer.now c.report.result c.report.new.len c.report.new.fault c.write_utf8.new.buffer) same (
      Ok (file_path (nodes_of c.in-Ok.path)),
      (c.in-Ok-display_file_path.ensures.accepted, refl),
      rw (← c.in-Ok-display_file_path.ensures.ok)
          (text_shown _ c.args.buffer.now _ _ c.args.len.now c.args.fault.now _ _ _ (grind (arith, common_steps))
          c.write_utf8.ensures.len c.write_utf8.ensures.buffer c.report.ensures.shows),
    )

pub returns-in-Err-display_file_path-clause-path : goal.returns-in-Err-display_file_path-clause-path
returns-in-Err-display_file_path-clause-path c = λ nodes e.
    let same : nodes_of c.in-Ok.path ≡ nodes = cc (c.in-Ok.ensures.ok, e) in
    let said = c.refuse-in-Err-display_file_path.ensures in
    subst (λ (ns : List Node). (file : Result (List ℕ) FilePathError) × GivesFilePath ns file
    × Shows (file_outcome encode_utf8_all file) c.args.len.now c.args.fault.now c.args.buffer.now c.refuse-in-Err-display_file_path.result
    c.refuse-in-Err-display_file_path.new.len c.refuse-in-Err-display_file_path.new.fault c.args.buffer.now) same (
      Err c.in-Err-display_file_path.error,
      c.in-Err-display_file_path.ensures.refusal,
      record { reason = said.reason; len = said.len; fault = said.fault; buffer = refl },
    )
