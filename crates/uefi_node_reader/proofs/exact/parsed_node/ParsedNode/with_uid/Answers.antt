use Rattle.std.proofs.Common.{◌≡◌, ℕ, List, [], ◌++◌, length, take, refl, ap, ◌∙◌, arith}
use Rattle.std.specs.Prelude.{Some}
use Rattle.std.specs.Option.{option_map}
use Rattle.uefi_node_reader.specs.CountedBytes.{pushed_bytes}
use Rattle.uefi_node_reader.specs.FieldReading.{clear_run}
use Rattle.uefi_node_reader.specs.ParsedNodes.{fitting}
use Rattle.uefi_node_reader.specs.TableReading.{as_ids, first_of}
use Rattle.uefi_node_reader.proofs.ParsedNodes.{tail_fits, tail_long}
use Rattle.uefi_node_reader.proofs.exact.parsed_node.ParsedNode.with_uid.Goals as goal

pub returns-then-len-gt65531-clause-data : goal.returns-then-len-gt65531-clause-data
returns-then-len-gt65531-clause-data g c =
    let text : List ℕ = (g.T.Text.bytes c.args.text) in
    let bytes : List ℕ = as_ids [] [] (clear_run (first_of c.args.close.now) text).0 in
    let room : length c.args.fixed_bytes ≡ 56 = omega (arith, c.push_uid-len.auto.places) in
    let pushed = c.push_uid-len.ensures ∙ ap (λ (stop : ℕ). pushed_bytes (c.args.fixed_bytes, c.args.fixed) (as_ids [] [] (clear_run stop text).0))
    (c.first_of-stop.ensures ∙ ap first_of c.as_bytes.ensures.value) in
    ap (option_map (λ (x : List ℕ × List ℕ). x.0)) (tail_long c.args.fixed_bytes c.args.fixed c.requires room (Some (bytes, []))
    c.push_uid-len.new.places c.push_uid-len.result [] (ap (λ (s : List ℕ × ℕ). Some (s, [])) pushed) c.if-len-gt65531.true)

pub invariant_of-result : goal.invariant_of-result
invariant_of-result g c =
    let bytes : List ℕ = as_ids [] [] (clear_run c.first_of-stop.result (g.T.Text.bytes c.args.text)).0 in
    let room : length c.args.fixed_bytes ≡ 56 = omega (arith, c.push_uid-len.auto.places) in
    let read = tail_fits c.args.fixed_bytes c.args.fixed c.requires room (Some (bytes, []))
    c.push_uid-len.new.places c.push_uid-len.result [] (ap (λ (s : List ℕ × ℕ). Some (s, [])) c.push_uid-len.ensures) c.if-len-gt65531.false in
    record { small = c.requires; coded = refl; counted = read.count; shown = read.shown; fits = c.if-len-gt65531.false }

pub returns-clause-data : goal.returns-clause-data
returns-clause-data g c =
    let uid : ℕ → List ℕ = λ stop. as_ids [] [] (clear_run stop (g.T.Text.bytes c.args.text)).0 in
    let room : length c.args.fixed_bytes ≡ 56 = omega (arith, c.push_uid-len.auto.places) in
    ap (option_map (λ (x : List ℕ × List ℕ). x.0)) (tail_fits c.args.fixed_bytes c.args.fixed c.requires room (Some (uid c.first_of-stop.result, []))
    c.push_uid-len.new.places c.push_uid-len.result [] (ap (λ (s : List ℕ × ℕ). Some (s, [])) c.push_uid-len.ensures) c.if-len-gt65531.false).data_
    ∙ ap (λ (stop : ℕ). option_map (λ (x : List ℕ × List ℕ). x.0) (fitting (Some (take c.args.fixed c.args.fixed_bytes ++ uid stop, []))))
    (c.first_of-stop.ensures ∙ ap first_of c.as_bytes.ensures.value)
