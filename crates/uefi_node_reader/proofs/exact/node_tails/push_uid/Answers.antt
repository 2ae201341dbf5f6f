use Rattle.std.proofs.Common.{ℕ, ◌∷◌, [], ◌++◌, List, ap, sym, ◌∙◌, append_assoc}
use Rattle.uefi_node_reader.specs.CountedBytes.{pushed_byte, pushed_bytes}
use Rattle.uefi_node_reader.specs.FieldReading.{clear_run}
use Rattle.uefi_node_reader.proofs.CountedBytes.{pushed_bytes-append}
use Rattle.uefi_node_reader.proofs.exact.node_tails.push_uid.Goals as goal

pub returns : goal.returns
returns g c =
    let uid : List ℕ = (clear_run c.args.stop (g.T.Text.bytes c.args.text)).0 in
    let first : List ℕ × ℕ = pushed_byte (c.args.places.now, c.args.len) 0 in
    c.push.ensures
    ∙ ap (λ (s : List ℕ × ℕ). pushed_byte s 0) (c.push_clear_name-len.ensures.state ∙ ap (λ (s : List ℕ × ℕ). pushed_bytes s (uid ++ 0 ∷ [])) c.push-len.ensures)
    ∙ sym (pushed_bytes-append first (uid ++ 0 ∷ []) (0 ∷ [])) ∙ ap (pushed_bytes first) (append_assoc uid (0 ∷ []) (0 ∷ []))
