-- A block whose slashes are replaced is plain.
use Rattle.std.proofs.Common.{subst, sym}
use Rattle.uefi_path.specs.Separators.{IsPlain}
use Rattle.uefi_path.proofs.Joining.{IsPlain-with_separators}
use Rattle.uefi_path.proofs.SeparatorPlaces.{block_added}
use Rattle.uefi_path.proofs.pathbuf.PathBuf.push_block.Goals as goal

pub invariant_of-self-2 : goal.invariant_of-self-2
invariant_of-self-2 g c =
    let plain = subst IsPlain (sym c.copy_units.ensures.block) (IsPlain-with_separators _) in
    block_added c.self.inside.string c.self.inside.places.items c.copy_units.new.block _ _ c.self.invariant.0 c.self.invariant.1
    plain c.in_ok-add_block.ensures.text c.in_ok-add_block.ensures.places
