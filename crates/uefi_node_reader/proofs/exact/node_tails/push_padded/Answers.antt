use Rattle.std.proofs.Common.{◌≡◌, ℕ, ◌-◌, ◌≤◌, Bool, List, ap, arith, cond, length, sym, take, ◌∙◌}
use Rattle.std.proofs.Math.ListN.{replicate}
use Rattle.std.proofs.lemmas.Bool.{le-leb}
use Rattle.std.proofs.lemmas.List.{take-replicate}
use Rattle.std.specs.Prelude.{Option, Some, None, option_and_then}
use Rattle.uefi_node_reader.specs.CountedBytes.{pushed_bytes, put_on}
use Rattle.uefi_node_reader.specs.FieldReading.{clear_run}
use Rattle.uefi_node_reader.specs.TableReading.{as_padded, padded}
use Rattle.uefi_node_reader.proofs.CountedBytes.{pushed_bytes-append}
use Rattle.uefi_node_reader.proofs.exact.node_tails.push_padded.Goals as goal

put : (state out : List ℕ × ℕ) (name rest : List ℕ) → length name ≤ 32 → out ≡ pushed_bytes state (padded name)
    → Some (out, rest) ≡ option_and_then (put_on state) (as_padded (name, rest))
put state out name rest short e =
    let found : Option (List ℕ × List ℕ) = Some (padded name, rest) in
    ap (λ (s : List ℕ × ℕ). Some (s, rest)) e
    ∙ ap (λ (t : Bool). option_and_then (put_on state) (cond t found None)) (sym (le-leb (length name) 32 short))

pub returns : goal.returns
returns g c =
    let state : List ℕ × ℕ = (c.args.places.now, c.args.len) in
    let out : List ℕ × ℕ = (c.push_all.new.places, c.push_all.result) in
    let run : List ℕ × List ℕ = clear_run c.args.stop (g.T.Text.bytes c.args.text) in
    let size : c.len.result ≡ length run.0 = c.len.ensures ∙ ap (λ (r : List ℕ × List ℕ). length r.0) c.cut_clear.ensures in
    let few = c.in_ok-spare.ensures in
    let zeros : take c.in_ok-spare.spare (replicate 32 0) ≡ replicate (32 - length run.0) 0 =
    ap (λ (n : ℕ). take n (replicate 32 0)) (few.1 ∙ ap (λ (n : ℕ). 32 - n) size) ∙ take-replicate (32 - length run.0) 32 0 (omega arith) in
    let whole : out ≡ pushed_bytes state (padded run.0) = c.push_all.ensures
    ∙ (λ i. pushed_bytes (c.push_clear-len.ensures.state i) (zeros i)) ∙ sym (pushed_bytes-append state run.0 (replicate (32 - length run.0) 0)) in
    ap (λ (r : List ℕ). Some (out, r)) c.push_clear-len.ensures.rest
    ∙ put state out run.0 run.1 (omega (arith, few.0, size)) whole
