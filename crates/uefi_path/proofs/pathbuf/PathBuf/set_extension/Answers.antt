-- What is left before the extension stays, as it holds no slash.
use Rattle.std.proofs.Common.{None, Some, drop, subst, sym, ◌∙◌, ◌≡◌}
use Rattle.std.specs.List.{last_or}
use Rattle.uefi_text.specs.Views.{text_of, units_of}
use Rattle.uefi_path.specs.Components.{components_of}
use Rattle.uefi_path.specs.Renaming.{IsExtended}
use Rattle.uefi_path.specs.Separators.{IsPlain}
use Rattle.uefi_path.proofs.LastPieces.{extended}
use Rattle.uefi_path.proofs.pathbuf.PathBuf.set_extension.Goals as goal

pub returns-clause-ok : goal.returns-clause-ok
returns-clause-ok g c =
    let old = c.args.self.now in
    let text = units_of c.as_slice-text.result in
    let same = c.as_slice-text.ensures.same ∙ c.as_cstr16.ensures.same ∙ c.self.view_is in
    let plain = subst (λ us. IsPlain us) c.self.view_is c.self.invariant.0 in
    let last = subst (λ us. Some (drop c.in-Some.start us) ≡ last_or None (components_of us)) c.units.ensures c.in-Some.ensures.name in
    let made = extended old text (units_of c.part-name.result) (text_of c.args.extension) c.in-Some.start c.len.result c.stem_len.result same last
    c.part-name.ensures c.len.ensures c.stem_len.ensures.stem plain in
    λ _. subst (λ us. IsExtended old us (text_of c.args.extension)) (sym (c.drop.view_is ∙ c.in_ok-self-inside.ensures)) made
