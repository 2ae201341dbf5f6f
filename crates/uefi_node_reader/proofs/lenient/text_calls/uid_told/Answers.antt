use Rattle.std.proofs.Common.{◌≡◌, ◌++◌, [], Bool, true, cond, List, ℕ, ap, sym, ◌∙◌, take}
use Rattle.std.specs.Option.{ok_or, option_map}
use Rattle.std.specs.Prelude.{Option, Some, Result, Err}
use Rattle.uefi_device_nodes.specs.Nodes.{Node}
use Rattle.uefi_device_nodes.specs.Rows.{Form, as_form}
use Rattle.uefi_node_reader.specs.FieldReading.{clear_run}
use Rattle.uefi_node_reader.specs.LenientCalls.{told_in}
use Rattle.uefi_node_reader.specs.ParsedNodes.{fitting}
use Rattle.uefi_node_reader.specs.TableReading.{as_ids, first_of, is_empty}
use Rattle.uefi_node_reader.specs.TextCalls.{stop_before}
use Rattle.uefi_node_reader.specs.declared.errors.faults.Expected.TheVariants as expected
use Rattle.uefi_node_reader.specs.declared.errors.faults.Stop.{Stop}
use Rattle.uefi_node_reader.proofs.TextCalls.{unfit}
use Rattle.uefi_node_reader.proofs.ToldForms.{empty_is}
use Rattle.uefi_node_reader.proofs.lenient.text_calls.uid_told.Goals as goal

pub returns-in_default : goal.returns-in_default
returns-in_default g c =
    let form : Form = as_form c.args.row.now in
    let words : List ℕ = (g.T.Text.bytes c.args.words) in
    let fixed : List ℕ = take form.least c.args.fixed in
    let content : List ℕ → List ℕ = λ close. fixed ++ as_ids [] [] (clear_run (first_of close) words).0 in
    let stop = c.first_of-stop.ensures ∙ ap first_of c.as_bytes.ensures.value in
    let ends : true ≡ is_empty (clear_run (first_of form.close) words).1 =
    sym c.if-not-is_empty.false ∙ c.is_empty.ensures ∙ ap is_empty c.past_clear-rest.ensures ∙ ap (λ (s : ℕ). is_empty (clear_run s words).1) stop in
    let left : g.T.Text.bytes c.past_clear-rest.result ≡ [] = empty_is _ (sym c.if-not-is_empty.false ∙ c.is_empty.ensures) in
    let none = unfit form (content form.close) [] []
    ((rw c.in_default.is at c.with_uid.ensures.data)
    ∙ ap (λ (l : List ℕ). option_map (λ (x : List ℕ × List ℕ). x.0) (fitting (Some (content l, [])))) c.as_str.ensures) in
    let told : Option Node → Result Node Stop = λ o. ok_or o (stop_before [] expected.Untold) in
    ap (λ (s : Stop). Err s) (c.stop_before-in_default.ensures ∙ ap (λ (l : List ℕ). stop_before l expected.Untold) left) ∙ ap told none
    ∙ ap (λ (t : Bool). cond t (told (told_in form (Some (content form.close, []))))
    (Err (stop_before (clear_run (first_of form.close) words).1 (expected.Byte (first_of form.close))))) ends
