use Rattle.std.proofs.lemmas.Bool.{and_parts, leb-true}
use Rattle.uefi_node_steps.proofs.Walks.{below_more}
use Rattle.uefi_node_steps.proofs.walk.fits.Goals as goal

pub has_bytes-requires : goal.has_bytes-requires
has_bytes-requires c =
    let small = and_parts _ _ c.requires in
    let more = and_parts _ _ small.1 in below_more c.args.form.now.layout.size (leb-true _ _ small.0) c.args.form.now.when.now more.1
