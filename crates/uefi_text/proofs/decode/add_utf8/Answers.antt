-- Units of ASCII are their own UTF-8.
use Rattle.std.proofs.Common.{arith}
use Rattle.std.proofs.lemmas.Str.{encodes-IsAscii}
use Rattle.std.proofs.lemmas.Grind.{common_steps}
use Rattle.uefi_text.proofs.decode.add_utf8.Goals as goal

pub returns-then-is_ascii-clause-ok : goal.returns-then-is_ascii-clause-ok
returns-then-is_ascii-clause-ok g c =
    let same = encodes-IsAscii c.args.units.now (c.is_ascii.ensures.0 c.if-is_ascii.true) in
    grind (arith, common_steps, same)
