use Rattle.std.proofs.Common.{ap, arith, length}
use Rattle.std.proofs.lemmas.List.Sums.{prefix_len-le-length}
use Rattle.uefi_fat.specs.Trimming.{is_space}
use Rattle.uefi_fat.proofs.long_names.without_spaces_before.Goals as goal

pub part-requires : goal.part-requires
part-requires c =
    let before = prefix_len-le-length is_space c.units.result.now in
    (omega (arith, before, ap length c.units.ensures, c.spaces_before.ensures, c.len.ensures), omega (arith, c.len.ensures))
