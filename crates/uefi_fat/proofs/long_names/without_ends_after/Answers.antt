use Rattle.std.proofs.Common.{ap, arith, length}
use Rattle.std.proofs.lemmas.List.Sums.{suffix_len-le-length}
use Rattle.uefi_fat.specs.Trimming.{is_space_or_dot}
use Rattle.uefi_fat.proofs.long_names.without_ends_after.Goals as goal

pub overflow_sub-len : goal.overflow_sub-len
overflow_sub-len c =
    let after = suffix_len-le-length is_space_or_dot c.units.result.now in
    omega (arith, after, ap length c.units.ensures, c.ends_after.ensures, c.len.ensures)
