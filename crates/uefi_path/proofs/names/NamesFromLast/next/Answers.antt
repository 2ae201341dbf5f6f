-- A name that stays is left out of those that are left.
use Rattle.std.proofs.Common.{◌≡◌, ◌++◌, ◌∷◌, [], All, length, arith, subst}
use Rattle.std.proofs.Math.Seq.{take-append_seam}
use Rattle.std.proofs.lemmas.List.Elements.{All-take}
use Rattle.uefi_path.specs.NamesLeft.{names_left}
use Rattle.uefi_path.specs.NormalForms.{IsName}
use Rattle.uefi_text.specs.Views.{units_of}
use Rattle.uefi_path.proofs.names.NamesFromLast.next.Goals as goal

pub returns-then-keeps-clause-walk : goal.returns-then-keeps-clause-walk
returns-then-keeps-clause-walk c =
    let old = c.loop-self.self in
    let new = c.keeps.new.self in
    let last = units_of c.cut_last.result.1 in
    let walk = c.loop-self.invariant.0 in
    let same : names_left old ≡ names_left new ++ last ∷ [] = grind (arith, old, new, last) in
    record {
      are_names =
          subst (All IsName) (take-append_seam (names_left new) (last ∷ []))
          (All-take IsName (length (names_left new)) _ (subst (All IsName) same walk.are_names));
      bound = grind (arith, walk);
    }
