-- One byte for each unit, and those that are counted.
use Rattle.std.proofs.Common.{arith}
use Rattle.uefi_text.proofs.Utf8Bytes.{length-encode_utf8_all}
use Rattle.uefi_text.proofs.decode.utf8_len.Goals as goal

pub returns : goal.returns
returns c =
    omega (arith, length-encode_utf8_all c.args.units.now (λ k. omega (arith, c.type_inv.units k)), c.count_wide-two.ensures.two, c.count_wide-two.ensures.three)
