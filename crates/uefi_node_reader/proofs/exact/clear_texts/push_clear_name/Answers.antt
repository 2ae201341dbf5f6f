use Rattle.std.proofs.Common.{List, ℕ, [], ◌∷◌, sym, ap, ◌∙◌}
use Rattle.uefi_node_reader.specs.CountedBytes.{pushed_byte}
use Rattle.uefi_node_reader.specs.FieldReading.{clear_run}
use Rattle.uefi_node_reader.proofs.CountedBytes.{pushed_bytes-append}
use Rattle.uefi_node_reader.proofs.exact.clear_texts.push_clear_name.Goals as goal

pub returns-clause-state : goal.returns-clause-state
returns-clause-state g c =
    c.push.ensures ∙ ap (λ (s : List ℕ × ℕ). pushed_byte s 0) c.push_clear-count.ensures.state
    ∙ sym (pushed_bytes-append (c.args.places.now, c.args.len) (clear_run c.args.stop (g.T.Text.bytes c.args.text)).0 (0 ∷ []))
