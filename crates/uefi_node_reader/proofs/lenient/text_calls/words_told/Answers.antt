use Rattle.std.proofs.Common.{◌++◌, ℕ, List, ap, ◌∙◌, take}
use Rattle.std.specs.Option.{ok_or, option_map}
use Rattle.std.specs.Prelude.{Option, Err, option_and_then}
use Rattle.uefi_device_nodes.specs.Nodes.{Node}
use Rattle.uefi_device_nodes.specs.Rows.{Form, as_form}
use Rattle.uefi_node_reader.specs.LenientCalls.{tidied_rest}
use Rattle.uefi_node_reader.specs.ParsedNodes.{fitting}
use Rattle.uefi_node_reader.specs.Stops.{stop_at}
use Rattle.uefi_node_reader.specs.TableReading.{added}
use Rattle.uefi_node_reader.specs.declared.errors.faults.Expected.TheVariants as expected
use Rattle.uefi_node_reader.specs.declared.errors.faults.Stop.{Stop}
use Rattle.uefi_node_reader.proofs.TextCalls.{unfit}
use Rattle.uefi_node_reader.proofs.lenient.text_calls.words_told.Goals as goal

pub returns-in_default : goal.returns-in_default
returns-in_default g c tail read =
    let form : Form = as_form c.args.row.now in
    let fixed : List ℕ = take form.least c.args.fixed in
    let left : List ℕ = tidied_rest c.args.rest.is_open (g.T.Text.bytes c.args.rest.text) in
    let data_ = c.with_words.ensures.data
    ∙ ap (λ (o : Option (List ℕ × List ℕ)). option_map (λ (x : List ℕ × List ℕ). x.0) (fitting (option_and_then (added fixed) o))) read in
    ap (λ (s : Stop). Err s) c.stop_at.ensures
    ∙ ap (λ (o : Option Node). ok_or o (stop_at left expected.Untold)) (unfit form (fixed ++ tail.0) tail.1 left (rw c.in_default.is at data_))
