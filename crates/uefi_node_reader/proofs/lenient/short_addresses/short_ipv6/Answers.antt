use Rattle.std.proofs.Common.{◌≡◌, ◌≤◌, ℕ, Bool, cond, List, [], ◌++◌, length, take, append-nil, ap, ◌∙◌, arith}
use Rattle.std.specs.Prelude.{Option, Some, None, option_and_then}
use Rattle.std.proofs.lemmas.Bool.{le-leb}
use Rattle.std.proofs.lemmas.List.{length-take}
use Rattle.std.proofs.lemmas.Option.{none-some}
use Rattle.uefi_device_nodes.specs.Nodes.{node_with}
use Rattle.uefi_node_reader.specs.ParsedNodes.{fitting}
use Rattle.uefi_node_reader.specs.ParsedNodeViews.{parsed_node, text_node_data}
use Rattle.uefi_node_reader.specs.ShortAddresses.{short_ipv6, told_fixed}
use Rattle.uefi_node_reader.proofs.Digits.{some_pair}
use Rattle.uefi_node_reader.proofs.lenient.short_addresses.short_ipv6.Goals as goal

-- data without a tail, which are no more than a node may have
all_fit : (n : ℕ) (all text : List ℕ) → n ≤ 56 → fitting (Some (take n all ++ [], text)) ≡ Some (take n all, text)
all_fit n all text few =
    let size = length-take n all in
    let same : take n all ++ [] ≡ take n all = append-nil (take n all) in
    ap (λ (x : List ℕ). fitting (Some (x, text))) same
    ∙ ap (λ (t : Bool). cond t (Some (take n all, text)) None) (le-leb (length (take n all)) 0xfffb (omega (arith, size, few)))

pub returns-in_err-node : goal.returns-in_err-node
returns-in_err-node g c =
    let few : c.in_ok-fixed.len ≤ 56 = rw c.in_ok-fixed.was at c.call_data.ensures.few in
    absurd (none-some _ (rw c.in_err-node.was at c.with_tail.ensures.data ∙ all_fit c.in_ok-fixed.len c.in_ok-fixed.fixed (g.T.Text.bytes c.args.text) few))

pub returns : goal.returns
unfolding short_ipv6 parsed_node
returns g c =
    let few : c.in_ok-fixed.len ≤ 56 = rw c.in_ok-fixed.was at c.call_data.ensures.few in
    let bytes : List ℕ = take c.in_ok-fixed.len c.in_ok-fixed.fixed in
    let types = (rw c.in_ok-node.was at c.with_tail.ensures.types) in
    let read = (rw c.in_ok-node.was at c.with_tail.ensures.data) in
    let same = (some_pair (text_node_data c.in_ok-node.node, (g.T.Text.bytes c.in_ok-node.field-0-1))
    (bytes, g.T.Text.bytes c.args.text) (read ∙ all_fit c.in_ok-fixed.len c.in_ok-fixed.fixed (g.T.Text.bytes c.args.text) few)).0 in
    c.told_fixed.ensures ∙ (λ i. told_fixed (node_with (types.0 i) (types.1 i) (same i)))
    ∙ ap (λ (o : Option (List ℕ)). option_and_then (λ (content : List ℕ). told_fixed (node_with 3 13 content)) o) (rw c.in_ok-fixed.was at c.call_data.ensures.data)
