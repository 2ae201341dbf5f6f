use Rattle.std.proofs.Common.{◌≡◌, ℕ, List, ◌++◌, ◌∷◌, [], take, drop, length, ap, sym, ◌∙◌, arith}
use Rattle.std.proofs.lemmas.List.{length-take-le}
use Rattle.uefi_node_reader.specs.DataForms.{coded_tail}
use Rattle.uefi_node_reader.specs.ParsedNodes.{decoded}
use Rattle.uefi_node_reader.proofs.ParsedNodes.{OtherFixed, other_fixed}
use Rattle.uefi_node_reader.proofs.exact.parsed_node.ParsedNode.with_fields.Goals as goal

pub invariant_of-node : goal.invariant_of-node
invariant_of-node g c =
    let node = c.self.inside in
    let is_decoded = c.self.invariant in
    let found : List ℕ = c.exact_pieces.new.content in
    let n : ℕ = c.from.result in
    let bytes : List ℕ = decoded (coded_tail node.data_form) (node.stop ∷ []) (g.T.Text.bytes node.text) in
    let room : length node.head ≡ 56 = omega arith in
    let wide = length-take-le n node.head (omega (arith, room, is_decoded.small, c.from.ensures)) in
    let size : length found ≡ node.fixed = omega (arith, wide, c.from.ensures, c.exact_pieces.auto.content) in
    let is : OtherFixed found node.head bytes node.fixed node.len = other_fixed found node.head bytes node.fixed node.len is_decoded.small room size is_decoded.counted is_decoded.shown in
    let same = ap (λ (k : ℕ). found ++ drop k node.head) c.from.ensures in
    record {
      small = is_decoded.small;
      coded = is_decoded.coded;
      counted = is.count ∙ ap (λ (x : List ℕ). length (take node.fixed x ++ bytes)) (sym same);
      shown = ap (λ (x : List ℕ). take node.len x) same ∙ is.shown ∙ ap (λ (x : List ℕ). take 56 (take node.fixed x ++ bytes)) (sym same);
      fits = is_decoded.fits;
    }
