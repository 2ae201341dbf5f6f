-- The character has room for each of its bytes, before and after those in front of it are written.
use Rattle.std.proofs.Common.{arith}
use Rattle.std.proofs.lemmas.List.{length-set}
use Rattle.uefi_text.proofs.Utf8Bytes.{length-encode_utf8-four}
use Rattle.uefi_text.proofs.decode.write_four.Goals as goal

pub bounds-bytes-place-2 : goal.bounds-bytes-place-2
bounds-bytes-place-2 c =
    let four = length-encode_utf8-four c.args.code c.requires.above in
    simp length-set (omega (arith, four))

pub bounds-bytes-place-3 : goal.bounds-bytes-place-3
bounds-bytes-place-3 c =
    let four = length-encode_utf8-four c.args.code c.requires.above in
    simp length-set (omega (arith, four))

pub bounds-bytes-place-4 : goal.bounds-bytes-place-4
bounds-bytes-place-4 c =
    let four = length-encode_utf8-four c.args.code c.requires.above in
    simp length-set (omega (arith, four))
