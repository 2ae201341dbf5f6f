-- A text is no longer than the bytes that it stands for.
use Rattle.std.proofs.Common.{arith, length-take}
use Rattle.std.proofs.lemmas.Grind.{common_steps}
use Rattle.std.specs.List.{position_or_len}
use Rattle.uefi_text.specs.Units.{is_nul}
use Rattle.nardcorbel.proofs.CallOutputs.{text_written}
use Rattle.nardcorbel.proofs.fat_names.nard_string_from_fat.Goals as goal

pub returns-clause-shows : goal.returns-clause-shows
returns-clause-shows c =
    text_written _ c.args.buffer.now _ _ c.args.len.now _ _ (grind (arith, common_steps)) c.fat_to_str.ensures.len c.fat_to_str.ensures.buffer c.report_written.ensures.shows

pub returns-clause-length : goal.returns-clause-length
returns-clause-length c =
    omega (arith, (returns-clause-shows c 0).len, length-take (position_or_len is_nul c.args.bytes.now) c.args.bytes.now)
