-- What holds of each part that the buffer took holds of the whole.
use Rattle.std.proofs.Common.{refl, ◌∙◌, subst, sym, [], ◌++◌, append_assoc, List, ℕ}
use Rattle.std.proofs.lemmas.List.{append-nil}
use Rattle.uefi_text.proofs.Puts.{taken_whole}
use Rattle.uefi_text.specs.UnitTexts.{AreSunk}
use Rattle.nardcorbel.proofs.utf8_buffers.put_text.Goals as goal

pub returns : goal.returns
returns g c =
    let whole = taken_whole _ (λ f. (refl, λ bytes start h. sunk_nothing bytes start f.buffer.now f.len h))
    (λ f g h a b one two. (
      two.0 ∙ one.0,
      λ bytes start sunk. subst (λ (us : List ℕ). AreSunk us start h.buffer.now h.len) (append_assoc bytes a b)
          (two.1 (bytes ++ a) start (one.1 bytes start sunk)),
    ))
    _ _ _ c.put.ensures in
    record { same_reference = whole.0; sunk = λ start none. whole.1 [] start none }
  where
    sunk_nothing : (bytes start buffer : List ℕ) (len : ℕ) → AreSunk bytes start buffer len → AreSunk (bytes ++ []) start buffer len
    sunk_nothing bytes start buffer len h = subst (λ (us : List ℕ). AreSunk us start buffer len) (sym (append-nil bytes)) h
