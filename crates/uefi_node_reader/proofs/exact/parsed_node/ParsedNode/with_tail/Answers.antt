use Rattle.std.proofs.Common.{◌≡◌, ℕ, ◌∷◌, [], List, length, take, ap, ◌∙◌, arith}
use Rattle.std.specs.Prelude.{Option, option_and_then}
use Rattle.uefi_node_reader.specs.CountedBytes.{put_on}
use Rattle.uefi_node_reader.specs.ParsedNodes.{fitting}
use Rattle.uefi_node_reader.specs.TableReading.{added, first_of, tail_read}
use Rattle.uefi_node_reader.proofs.ParsedNodes.{stop_alone, tail_fits, tail_long}
use Rattle.uefi_node_reader.proofs.exact.parsed_node.ParsedNode.with_tail.Goals as goal

pub returns-then-len-gt65531-clause-data : goal.returns-then-len-gt65531-clause-data
returns-then-len-gt65531-clause-data g c =
    let text : List ℕ = g.T.Text.bytes c.args.text in
    let same = ap (λ (k : ℕ). tail_read c.args.tail (k ∷ []) text) (c.first_of-stop.ensures ∙ ap first_of c.as_bytes.ensures.value)
    ∙ stop_alone c.args.tail c.args.close.now text in
    let room : length c.args.fixed_bytes ≡ 56 = omega (arith, c.push_tail.auto.places) in
    tail_long c.args.fixed_bytes c.args.fixed c.requires room (tail_read c.args.tail c.args.close.now text)
    c.push_tail.new.places c.in_ok-len.len (g.T.Text.bytes c.in_ok-len.rest) (rw c.in_ok-len.was at c.push_tail.ensures
    ∙ ap (λ (o : Option (List ℕ × List ℕ)). option_and_then (put_on (c.args.fixed_bytes, c.args.fixed)) o) same) c.if-len-gt65531.true

pub invariant_of-node : goal.invariant_of-node
invariant_of-node g c =
    let room : length c.args.fixed_bytes ≡ 56 = omega (arith, c.push_tail.auto.places) in
    let read = tail_fits c.args.fixed_bytes c.args.fixed c.requires room (tail_read c.args.tail (c.first_of-stop.result ∷ []) (g.T.Text.bytes c.args.text))
    c.push_tail.new.places c.in_ok-len.len (g.T.Text.bytes c.in_ok-len.rest) (rw c.in_ok-len.was at c.push_tail.ensures) c.if-len-gt65531.false in
    rw c.of.ensures record { small = c.requires; coded = read.some; counted = read.count; shown = read.shown; fits = c.if-len-gt65531.false }

pub returns-clause-data : goal.returns-clause-data
returns-clause-data g c =
    let text : List ℕ = g.T.Text.bytes c.args.text in
    let same = ap (λ (k : ℕ). tail_read c.args.tail (k ∷ []) text) (c.first_of-stop.ensures ∙ ap first_of c.as_bytes.ensures.value)
    ∙ stop_alone c.args.tail c.args.close.now text in
    let room : length c.args.fixed_bytes ≡ 56 = omega (arith, c.push_tail.auto.places) in
    rw c.of.ensures (tail_fits c.args.fixed_bytes c.args.fixed c.requires room (tail_read c.args.tail (c.first_of-stop.result ∷ []) text)
    c.push_tail.new.places c.in_ok-len.len (g.T.Text.bytes c.in_ok-len.rest) (rw c.in_ok-len.was at c.push_tail.ensures) c.if-len-gt65531.false).data_
    ∙ ap (λ (o : Option (List ℕ × List ℕ)). fitting (option_and_then (added (take c.args.fixed c.args.fixed_bytes)) o)) same
