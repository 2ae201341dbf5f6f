-- The path that was read is the only one that the bytes begin with.
use Rattle.std.proofs.Common.{◌≡◌, ◌∙◌, ◌<◌, arith, length, refl, subst, sym, List, ℕ, Ok, Err, Result}
use Rattle.std.proofs.lemmas.Grind.{common_steps}
use Rattle.uefi_text.proofs.TextsInBuffers.{text_fits}
use Rattle.uefi_device_path.specs.FilePathBuffers.{WriteRefusedFor}
use Rattle.uefi_device_path.specs.FilePaths.{file_path}
use Rattle.uefi_device_path.specs.Nodes.{Node}
use Rattle.uefi_device_path.specs.Views.{nodes_of}
use Rattle.uefi_device_path.specs.declared.errors.FilePathError.{FilePathError}
use Rattle.uefi_device_path.specs.declared.errors.FilePathWriteError.{FilePathWriteError}
use Rattle.uefi_device_path.specs.declared.errors.FilePathWriteError.TheVariants.{BufferTooSmall, Name}
use Rattle.nardcorbel.specs.DevicePaths.{GivesFilePath, file_outcome}
use Rattle.nardcorbel.specs.Outcomes.{Shows}
use Rattle.nardcorbel.proofs.Judged.{has_room, no_room}
use Rattle.nardcorbel.proofs.device_paths.reading.nard_device_path_file_path_utf16.Goals as goal

pub returns-in-Ok-write_file_path-clause-path : goal.returns-in-Ok-write_file_path-clause-path
returns-in-Ok-write_file_path-clause-path c = λ nodes e.
    let buffer = c.args.buffer.now in
    let made = file_path (nodes_of c.in-Ok.path) in
    let written = c.in-Ok-write_file_path.ensures in
    let room : length made < length buffer = omega (arith, written.len, written.room) in
    let same : nodes_of c.in-Ok.path ≡ nodes = cc (c.in-Ok.ensures.ok, e) in
    subst (λ (ns : List Node). (file : Result (List ℕ) FilePathError) × GivesFilePath ns file
    × Shows (file_outcome (λ path. path) file)
    c.args.len.now c.args.fault.now buffer c.report.result c.report.new.len c.report.new.fault c.write_file_path.new.buffer) same (
      Ok made,
      (written.accepted, refl),
      record {
        reason = c.report.ensures.shows.reason ∙ sym (has_room made buffer room);
        len = grind (arith, common_steps, written.len, room, c.report.ensures.shows.len);
        fault = c.report.ensures.shows.fault;
        buffer = written.ok ∙ text_fits made buffer room;
      },
    )

pub returns-in-Err-BufferTooSmall-clause-path : goal.returns-in-Err-BufferTooSmall-clause-path
returns-in-Err-BufferTooSmall-clause-path c = λ nodes e.
    let buffer = c.args.buffer.now in
    let made = file_path (nodes_of c.in-Ok.path) in
    let needed = c.in-Err-BufferTooSmall.needed in
    let is : c.in-Err-BufferTooSmall.field-0 ≡ BufferTooSmall needed = grind (arith, common_steps) in
    let R : FilePathWriteError → Type 0 = λ e. WriteRefusedFor (nodes_of c.in-Ok.path) (length buffer) e in
    let small : R (BufferTooSmall needed) = subst R is c.in-Err-BufferTooSmall.ensures.refusal in
    let full = no_room made buffer (omega (arith, small.1, small.2)) in
    let same : nodes_of c.in-Ok.path ≡ nodes = cc (c.in-Ok.ensures.ok, e) in
    let said = c.refuse_room.ensures.shows in
    subst (λ (ns : List Node). (file : Result (List ℕ) FilePathError) × GivesFilePath ns file
    × Shows (file_outcome (λ path. path) file)
    c.args.len.now c.args.fault.now buffer c.refuse_room.result c.refuse_room.new.len c.refuse_room.new.fault c.write_file_path.new.buffer) same (
      Ok made,
      (small.0, refl),
      record {
        reason = said.reason ∙ full.0;
        len = omega (arith, small.1, said.len, c.refuse_room.ensures.fits);
        fault = said.fault;
        buffer = c.in-Err-BufferTooSmall.ensures.err ∙ full.1;
      },
    )

pub returns-in-Err-Name-clause-path : goal.returns-in-Err-Name-clause-path
returns-in-Err-Name-clause-path c = λ nodes e.
    let buffer = c.args.buffer.now in
    let is : c.in-Err-Name.field-0 ≡ Name c.in-Err-Name.error = grind (arith, common_steps) in
    let R : FilePathWriteError → Type 0 = λ e. WriteRefusedFor (nodes_of c.in-Ok.path) (length buffer) e in
    let fault : R (Name c.in-Err-Name.error) = subst R is c.in-Err-Name.ensures.refusal in
    let same : nodes_of c.in-Ok.path ≡ nodes = cc (c.in-Ok.ensures.ok, e) in
    let said = c.refuse-in-Err-Name.ensures in
    subst (λ (ns : List Node). (file : Result (List ℕ) FilePathError) × GivesFilePath ns file
    × Shows (file_outcome (λ path. path) file)
    c.args.len.now c.args.fault.now buffer c.refuse-in-Err-Name.result c.refuse-in-Err-Name.new.len c.refuse-in-Err-Name.new.fault c.write_file_path.new.buffer) same (
      Err c.in-Err-Name.error,
      fault,
      record { reason = said.reason; len = said.len; fault = said.fault; buffer = c.in-Err-Name.ensures.err },
    )
