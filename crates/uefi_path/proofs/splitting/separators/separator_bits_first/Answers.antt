-- What a vector comparison gives, unit by unit.
use Rattle.std.proofs.Common.{◌≡◌, arith, eqb, length, take, w16}
use Rattle.std.proofs.lemmas.List.{length-take-le}
use Rattle.std.proofs.lemmas.Simd.{bitmask_splat}
use Rattle.uefi_path.specs.Separators.{separator}
use Rattle.uefi_path.proofs.splitting.separators.separator_bits_first.Goals as goal

pub returns : goal.returns
returns g c =
    let us = take g.row.N c.args.units.now in
    let long : length us ≡ g.row.N = length-take-le g.row.N c.args.units.now c.requires.within in
    bitmask_splat w16 eqb us g.row.N separator long (omega arith)
