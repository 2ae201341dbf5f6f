-- The path is what is read of the text, or of what stands before its fault.
use Rattle.std.proofs.Common.{◌≡◌, ◌∙◌, ℕ, Bool, true, false, cond, ◌&&◌, List, take, ap, sym, refl}
use Rattle.std.specs.Prelude.{Result, Ok, Err, is_ok}
use Rattle.uefi_device_path.specs.StyledReading.{extent_by, is_end, path_read}
use Rattle.uefi_device_path.specs.declared.text.text_errors.TextFault.{TextFault}
use Rattle.uefi_node_reader.specs.declared.styles.TextStyle.{TextStyle}
use Rattle.uefi_device_path.proofs.text.text_extent.extent.Goals as goal

module _ (style : TextStyle) (text : List ℕ) where
  -- how far the path goes, by whether a node should end at the fault, and what stands before it is read
  abbrev choice : TextFault → Bool → Bool → Result ℕ TextFault
  choice fault a b = cond (a && b) (Ok fault.byte) (Err fault)

  by_choice : (fault : TextFault) (a b : Bool) → path_read style text ≡ Err fault → is_end fault.expected ≡ a
      → is_ok (path_read style (take fault.byte text)) ≡ b → choice fault a b ≡ extent_by style text (path_read style text)
  by_choice fault a b read p q = (λ i. choice fault (sym p i) (sym q i)) ∙ ap (extent_by style text) (sym read)

pub returns-in-Ok : goal.returns-in-Ok
returns-in-Ok g c =
    ap (λ (n : ℕ). Ok n) c.len.ensures ∙ sym (ap (extent_by c.args.style (g.T.Text.bytes c.args.text)) c.in-Ok.ensures.1)

pub returns-then-not-is_end : goal.returns-then-not-is_end
returns-then-not-is_end g c =
    let text = g.T.Text.bytes c.args.text in
    by_choice c.args.style text c.in-Err.fault false (is_ok (path_read c.args.style (take c.in-Err.fault.byte text))) c.in-Err.ensures
    (sym c.is_end.ensures ∙ c.if-not-is_end.true) refl

pub returns-then-is_path : goal.returns-then-is_path
returns-then-is_path g c =
    by_choice c.args.style (g.T.Text.bytes c.args.text) c.in-Err.fault true true c.in-Err.ensures (sym c.is_end.ensures ∙ c.if-not-is_end.false)
    (sym (ap (λ (l : List ℕ). is_ok (path_read c.args.style l)) c.split_at-path.ensures.front) ∙ sym c.is_path.ensures ∙ c.if-is_path.true)

pub returns : goal.returns
returns g c =
    by_choice c.args.style (g.T.Text.bytes c.args.text) c.in-Err.fault true false c.in-Err.ensures (sym c.is_end.ensures ∙ c.if-not-is_end.false)
    (sym (ap (λ (l : List ℕ). is_ok (path_read c.args.style l)) c.split_at-path.ensures.front) ∙ sym c.is_path.ensures ∙ c.if-is_path.false)
