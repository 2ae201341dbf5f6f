use Rattle.std.proofs.Common.{◌≡◌, eqb, ℕ, List, ap, sym, ◌∙◌}
use Rattle.std.specs.Cmp.Lexicographic.{pointwise}
use Rattle.uefi_device_nodes.specs.Rows.{Form, as_form}
use Rattle.uefi_node_reader.specs.TableReading.{blank, overlay}
use Rattle.uefi_node_reader.proofs.PieceLaws.{overlay-append}
use Rattle.uefi_node_reader.proofs.lenient.complete_texts.tells_fixed.Goals as goal

pub returns : goal.returns
returns c =
    let form : Form = as_form c.args.row.now in
    let fixed : List ℕ = c.args.fixed.now in
    let both = overlay-append form.pieces form.rest fixed (blank form) in
    let first : List ℕ = overlay form.pieces fixed (blank form) in
    let one : c.put_all_kept.new.content ≡ first = (rw c.as_slice.ensures at c.put_all_kept.ensures) ∙ ap (overlay form.pieces fixed) c.fixed_part-again.ensures in
    let two : c.put_all_kept-2.new.content ≡ overlay form.rest fixed first = (rw c.as_slice-2.ensures at c.put_all_kept-2.ensures) ∙ ap (overlay form.rest fixed) one in
    c.eq.ensures ∙ ap (λ (x : List ℕ). pointwise eqb x fixed) (two ∙ sym both)
