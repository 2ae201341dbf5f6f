-- The places of the first characters come first.
use Rattle.std.proofs.Common.{ap, length, sym, take, ◌∙◌}
use Rattle.uefi_path.specs.Separators.{places_of}
use Rattle.uefi_path.proofs.SeparatorPlaces.{text_cut}
use Rattle.uefi_path.proofs.pathbuf.PathBuf.cut_back.Goals as goal

pub invariant_of-self : goal.invariant_of-self
invariant_of-self g c =
    text_cut c.self.inside.string c.self.inside.places.items _ _ c.args.len c.args.count c.self.invariant.0 c.self.invariant.1
    (c.requires ∙ ap (λ us. length (places_of (take c.args.len us))) (sym c.self.view_is)) c.truncate.ensures c.truncate-2.ensures.items
