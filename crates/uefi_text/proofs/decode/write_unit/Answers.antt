-- A unit has room for each of its bytes, before and after those in front of it are written.
use Rattle.std.proofs.Common.{arith}
use Rattle.std.proofs.lemmas.List.{length-set}
use Rattle.uefi_text.proofs.Utf8Bytes.{length-encode_utf8-two, length-encode_utf8-three}
use Rattle.uefi_text.proofs.decode.write_unit.Goals as goal

pub bounds-bytes-place-then-unit-lt2048-2 : goal.bounds-bytes-place-then-unit-lt2048-2
bounds-bytes-place-then-unit-lt2048-2 c =
    let two = length-encode_utf8-two c.args.unit (omega arith) (omega arith) in
    simp length-set (omega (arith, two))

pub bounds-bytes-place-3 : goal.bounds-bytes-place-3
bounds-bytes-place-3 c =
    let three = length-encode_utf8-three c.args.unit (omega arith) (omega arith) in
    simp length-set (omega (arith, three))

pub bounds-bytes-place-4 : goal.bounds-bytes-place-4
bounds-bytes-place-4 c =
    let three = length-encode_utf8-three c.args.unit (omega arith) (omega arith) in
    simp length-set (omega (arith, three))
