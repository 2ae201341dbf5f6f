-- Units of ASCII are their own UTF-8, and all units have at most three bytes each.
use Rattle.std.proofs.Common.{arith}
use Rattle.std.proofs.lemmas.Str.{encodes-IsAscii}
use Rattle.std.proofs.lemmas.Grind.{common_steps}
use Rattle.uefi_text.proofs.Utf8Bytes.{length-encode_utf8_all-le}
use Rattle.uefi_text.proofs.decode.write_utf8.Goals as goal

pub write_units-requires : goal.write_units-requires
write_units-requires c = omega (arith, length-encode_utf8_all-le c.args.units.now (λ k. omega (arith, c.type_inv.units k)), c.requires)

pub returns-then-is_ascii-clause-bytes : goal.returns-then-is_ascii-clause-bytes
returns-then-is_ascii-clause-bytes c =
    let same = encodes-IsAscii c.args.units.now (c.is_ascii.ensures.0 c.if-is_ascii.true) in
    grind (arith, common_steps, same)
