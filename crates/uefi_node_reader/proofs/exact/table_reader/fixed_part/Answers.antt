use Rattle.std.proofs.Common.{List, ℕ, take, refl, ap, ◌∙◌}
use Rattle.uefi_device_nodes.specs.Rows.{as_form}
use Rattle.uefi_node_reader.specs.TableReading.{are_within, put_all}
use Rattle.uefi_node_reader.proofs.FixedParts.{also_within, fixed_is, when_within}
use Rattle.uefi_node_reader.proofs.exact.table_reader.fixed_part.Goals as goal

pub put_bytes-requires : goal.put_bytes-requires
put_bytes-requires c = rw c.as_slice.ensures (when_within (as_form c.args.row.now) c.requires)

pub put_bytes-requires-2 : goal.put_bytes-requires-2
put_bytes-requires-2 c =
    rw c.as_slice-2.ensures (ap (λ (n : ℕ). are_within n (as_form c.args.row.now).also) c.put_bytes.auto.content ∙ also_within (as_form c.args.row.now) c.requires)

pub returns : goal.returns
returns c =
    let form = as_form c.args.row.now in
    ap (λ (l : List ℕ). take form.least l)
    ((rw c.as_slice-2.ensures at c.put_bytes-2.ensures) ∙ ap (λ (l : List ℕ). put_all form.also l) (rw c.as_slice.ensures at c.put_bytes.ensures))
    ∙ fixed_is form c.requires _ refl
