use Rattle.std.proofs.Common.{◌≡◌, ℕ, ◌∷◌, [], ◌++◌, List, ap, codes, sym, ◌∙◌, append_assoc}
use Rattle.std.specs.Prelude.{Option, Some, option_and_then}
use Rattle.uefi_node_reader.specs.CountedBytes.{pushed_bytes, put_on}
use Rattle.uefi_node_reader.specs.FieldReading.{clear_run}
use Rattle.uefi_node_reader.specs.TableReading.{as_ids, ids_read}
use Rattle.uefi_node_reader.specs.WordReading.{after}
use Rattle.uefi_node_reader.proofs.CountedBytes.{pushed_bytes-append}
use Rattle.uefi_node_reader.proofs.Literals.{after_some}
use Rattle.uefi_node_reader.proofs.exact.node_tails.push_ids.Goals as goal

-- the strings that a text has
read : (stop : ℕ) (text t u : List ℕ) → after (codes ",") (clear_run 44 text).1 ≡ Some t → after (codes ",") (clear_run 44 t).1 ≡ Some u
    → ids_read stop text ≡ Some (as_ids (clear_run 44 text).0 (clear_run 44 t).0 (clear_run stop u).0, (clear_run stop u).1)
read stop text t u a b =
    let last : List ℕ → List ℕ → Option (List ℕ × List ℕ) = λ x v. Some (as_ids (clear_run 44 text).0 x (clear_run stop v).0, (clear_run stop v).1) in
    after_some _ (λ (v : List ℕ). option_and_then (last (clear_run 44 v).0) (after (codes ",") (clear_run 44 v).1)) t a
    ∙ after_some _ (last (clear_run 44 t).0) u b

-- three strings, each with its zero
strings : (state : List ℕ × ℕ) (hid cid uid : List ℕ)
    → pushed_bytes (pushed_bytes (pushed_bytes state (hid ++ 0 ∷ [])) (uid ++ 0 ∷ [])) (cid ++ 0 ∷ []) ≡ pushed_bytes state (as_ids hid cid uid)
strings state hid cid uid =
    sym (pushed_bytes-append (pushed_bytes state (hid ++ 0 ∷ [])) (uid ++ 0 ∷ []) (cid ++ 0 ∷ []))
    ∙ sym (pushed_bytes-append state (hid ++ 0 ∷ []) ((uid ++ 0 ∷ []) ++ (cid ++ 0 ∷ [])))
    ∙ ap (pushed_bytes state) (append_assoc hid (0 ∷ []) ((uid ++ 0 ∷ []) ++ (cid ++ 0 ∷ []))
    ∙ ap (λ (l : List ℕ). hid ++ (0 ∷ l)) (append_assoc uid (0 ∷ []) (cid ++ 0 ∷ [])))

pub returns : goal.returns
returns g c =
    let state : List ℕ × ℕ = (c.args.places.now, c.args.len) in
    let text : List ℕ = g.T.Text.bytes c.args.text in
    let t : List ℕ = g.T.Text.bytes c.in_ok-cid.cid in
    let u : List ℕ = g.T.Text.bytes c.in_ok-uid.uid in
    let first : after (codes ",") (clear_run 44 text).1 ≡ Some t =
    ap (after (codes ",")) (sym c.past_clear.ensures) ∙ sym (rw c.in_ok-cid.was at c.after.ensures) in
    let second : after (codes ",") (clear_run 44 t).1 ≡ Some u =
    ap (after (codes ",")) (sym c.past_clear-2.ensures) ∙ sym (rw c.in_ok-uid.was at c.after-2.ensures) in
    let pushed = c.push_clear_name-len-3.ensures.state
    ∙ ap (λ (s : List ℕ × ℕ). pushed_bytes s ((clear_run 44 t).0 ++ 0 ∷ [])) (c.push_clear_name-len-2.ensures.state
    ∙ ap (λ (s : List ℕ × ℕ). pushed_bytes s ((clear_run c.args.stop u).0 ++ 0 ∷ [])) c.push_clear_name-len.ensures.state)
    ∙ strings state (clear_run 44 text).0 (clear_run 44 t).0 (clear_run c.args.stop u).0 in
    (λ i. Some (pushed i, c.push_clear_name-len-2.ensures.rest i))
    ∙ ap (λ (o : Option (List ℕ × List ℕ)). option_and_then (put_on state) o) (sym (read c.args.stop text t u first second))
