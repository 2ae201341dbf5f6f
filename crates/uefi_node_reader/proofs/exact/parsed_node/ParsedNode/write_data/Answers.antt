use Rattle.std.proofs.Common.{◌≡◌, ℕ, true, List, [], ◌∷◌, ◌++◌, length, take, sym, ap, ◌∙◌, arith}
use Rattle.std.specs.Prelude.{Option, is_some}
use Rattle.uefi_node_reader.specs.CountedBytes.{pushed_bytes}
use Rattle.uefi_node_reader.specs.FieldReading.{clear_run}
use Rattle.uefi_node_reader.specs.TableReading.{as_ids, tail_read}
use Rattle.uefi_node_reader.specs.ParsedNodes.{read_data, decoded, is_coded}
use Rattle.uefi_node_reader.specs.ParsedNodeViews.{TextNode, parsed_node}
use Rattle.uefi_device_nodes.specs.declared.node_table.rows.Tail.{Tail}
use Rattle.uefi_node_reader.proofs.CountedBytes.{whole_written}
use Rattle.uefi_node_reader.proofs.ParsedNodes.{tail_written}
use Rattle.uefi_node_reader.proofs.exact.parsed_node.ParsedNode.write_data.Goals as goal

pub returns-in-Some : goal.returns-in-Some
unfolding parsed_node
returns-in-Some g c =
    let node = c.self.inside in
    let front : List ℕ = take node.fixed node.head in
    let all : c.args.self.now.content ≡ front ++ read_data (tail_read c.in-Some.tail (node.stop ∷ []) (g.T.Text.bytes node.text)) =
    ap (λ (v : TextNode). v.content) (sym c.self.view_is) ∙ ap (λ (k : Option Tail). front ++ decoded k (node.stop ∷ []) (g.T.Text.bytes node.text)) (sym c.tail.ensures ∙ c.in-Some.is) in
    let some : is_some (tail_read c.in-Some.tail (node.stop ∷ []) (g.T.Text.bytes node.text)) ≡ true =
    ap (λ (k : Option Tail). is_coded k (node.stop ∷ []) (g.T.Text.bytes node.text)) (sym c.in-Some.is ∙ c.tail.ensures) ∙ c.self.invariant.coded in
    tail_written g.T.Text.bytes front c.args.bytes.now c.push_all-len.new.places c.push_tail.new.places (tail_read c.in-Some.tail (node.stop ∷ []) (g.T.Text.bytes node.text))
    c.push_all-len.result c.push_tail.result some (c.requires ∙ ap length all) (omega (arith, c.requires, c.self.invariant.counted, c.self.invariant.fits))
    (c.push_all-len.ensures ∙ ap (λ (n : ℕ). pushed_bytes (c.args.bytes.now, 0) (take n node.head)) c.from.ensures) c.push_tail.ensures
    ∙ sym all

pub returns-in-None : goal.returns-in-None
unfolding parsed_node
returns-in-None g c =
    let node = c.self.inside in
    let front : List ℕ = take node.fixed node.head in
    let bytes : List ℕ = as_ids [] [] (clear_run node.stop (g.T.Text.bytes node.text)).0 in
    let all : c.args.self.now.content ≡ front ++ bytes =
    ap (λ (v : TextNode). v.content) (sym c.self.view_is)
    ∙ ap (λ (k : Option Tail). front ++ decoded k (node.stop ∷ []) (g.T.Text.bytes node.text)) (sym c.tail.ensures ∙ c.in-None.is) in
    let first = c.push_all-len.ensures ∙ ap (λ (n : ℕ). pushed_bytes (c.args.bytes.now, 0) (take n node.head)) c.from.ensures in
    ap (λ (s : List ℕ × ℕ). s.0) (c.push_uid.ensures ∙ ap (λ (state : List ℕ × ℕ). pushed_bytes state bytes) first)
    ∙ whole_written front bytes c.args.bytes.now (c.requires ∙ ap length all) (omega (arith, c.requires, c.self.invariant.counted, c.self.invariant.fits))
    ∙ sym all
