use Rattle.std.proofs.Common.{◌≡◌, ◌+◌, ◌-◌, ◌^◌, ◌≤◌, ◌++◌, List, ℕ, ap, arith, length, map, min, subst, sym, take, ◌∙◌}
use Rattle.std.proofs.lemmas.Bool.{and_parts, leb-true}
use Rattle.uefi_node_steps.specs.Heads.{IsHead, is_parts, parts_read}
use Rattle.uefi_node_steps.specs.Leaves.{Read}
use Rattle.uefi_node_steps.specs.Printing.{form_by, step_by}
use Rattle.uefi_node_steps.specs.Steps.{Parts}
use Rattle.uefi_node_steps.specs.Table.{Form}
use Rattle.uefi_node_steps.proofs.Heads.{all_bytes, joined}
use Rattle.uefi_node_steps.proofs.walk.found_by.Goals as goal

pub returns-clause-found : goal.returns-clause-found
returns-clause-found g c =
    let form : Form = form_by (λ s. map (step_by (λ l. l.now)) s.now) (λ b. b.now) c.args.form.now in
    let tail = c.args.tail.now in
    let few : form.laid.size ≤ 56 = leb-true _ _ (and_parts _ _ c.requires.small).0 in
    let size = c.requires.size in
    let sum : c.saturating_add.result ≡ min (length c.args.fixed.now + tail.count) (2 ^ 64 - 1) = omega (arith, c.saturating_add.ensures) in
    let known : IsHead (c.args.fixed.now ++ tail.seen.bytes) (c.args.fixed.now ++ take (56 - length c.args.fixed.now) tail.bytes) c.saturating_add.result =
    joined c.args.fixed.now tail.seen.bytes tail.bytes tail.count c.saturating_add.result (omega arith) tail.long tail.counted tail.kept sum (all_bytes c.args.fixed.now
    (λ k l. (c.type_inv.fixed k).fits)) tail.are_bytes in
    record {
      sound = c.requires.sound;
      small = c.requires.small;
      read = ap is_parts c.requires.read;
      size = ap (λ (r : Read Parts). length (parts_read r).0) c.requires.read ∙ c.requires.size;
      known = subst (λ (r : Read Parts). IsHead ((parts_read r).0 ++ (parts_read r).1) c.behind.result c.saturating_add.result) (sym c.requires.read)
          (subst (λ (l : List ℕ). IsHead (c.args.fixed.now ++ tail.seen.bytes) l c.saturating_add.result) (sym c.behind.ensures) known);
    }
