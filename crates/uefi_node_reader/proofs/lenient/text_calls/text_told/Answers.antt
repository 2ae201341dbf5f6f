use Rattle.std.proofs.Common.{◌≡◌, ◌++◌, List, ℕ, ap, sym, ◌∙◌, drop, length, map, take, arith}
use Rattle.std.specs.List.{list_all}
use Rattle.std.specs.Option.{ok_or}
use Rattle.std.specs.Prelude.{Some, Ok}
use Rattle.std.proofs.lemmas.Grind.{common_steps}
use Rattle.std.proofs.lemmas.List.{take_at}
use Rattle.std.proofs.lemmas.Result.{err_from_is_err_and}
use Rattle.uefi_device_nodes.specs.Rows.{Form, as_form, as_piece, is_within}
use Rattle.uefi_node_reader.specs.LenientFields.{after_ending}
use Rattle.uefi_node_reader.specs.LenientCalls.{tidied_rest, told_in}
use Rattle.uefi_node_reader.specs.Stops.{past, stop_at}
use Rattle.uefi_node_reader.specs.declared.errors.faults.Expected.TheVariants as expected
use Rattle.uefi_node_reader.specs.TableReading.{tail_read}
use Rattle.uefi_node_reader.specs.TextCalls.{call_left, or_commas, text_stop}
use Rattle.uefi_node_reader.proofs.Literals.{ok_some}
use Rattle.uefi_node_reader.proofs.TableLaws.{sound}
use Rattle.uefi_node_reader.proofs.TextCalls.{end_unread, fields_unread, from_text, past_some, text_unread}
use Rattle.uefi_node_reader.proofs.lenient.text_calls.text_told.Goals as goal

pub read_pieces-requires : goal.read_pieces-requires
read_pieces-requires g c =
    let form : Form = as_form c.args.row.now in
    let is = sound form c.requires.read c.requires.sound in
    let size : length (take form.least c.args.fixed) ≡ form.least = grind (arith, common_steps) in
    (λ i. list_all (is_within ((size ∙ sym is.size) i)) (map as_piece (c.as_slice.ensures i))) ∙ is.rest_within

pub returns-in_err-end : goal.returns-in_err-end
returns-in_err-end g c =
    let form : Form = as_form c.args.row.now in
    let words : List ℕ = or_commas form.tail (g.T.Text.bytes c.args.words) in
    let p = err_from_is_err_and c.from_residual.result c.from_residual.ensures.1 in
    rw (p.1, p.2) (text_unread form (take form.least c.args.fixed) words _ _ (rw c.in_err-end.was at c.words_end.ensures
    ∙ ap (λ (l : List ℕ). ok_or (past (tail_read form.tail l words)) (text_stop form.tail words)) c.as_bytes-close.ensures.value))

pub returns-in_err-rest : goal.returns-in_err-rest
returns-in_err-rest g c =
    let form : Form = as_form c.args.row.now in
    let words : List ℕ = or_commas form.tail (g.T.Text.bytes c.args.words) in
    let call : List ℕ = tidied_rest c.args.call.is_open (g.T.Text.bytes c.args.call.text) in
    let ends : Some (g.T.Text.bytes c.in_ok-end.end) ≡ past (tail_read form.tail form.close words) =
    sym (ok_some (past (tail_read form.tail c.as_bytes-close.result.now words)) (text_stop form.tail words) (g.T.Text.bytes c.in_ok-end.end)
    (sym (rw c.in_ok-end.was at c.words_end.ensures))) ∙ ap (λ (l : List ℕ). past (tail_read form.tail l words)) c.as_bytes-close.ensures.value in
    let found = past_some (tail_read form.tail form.close words) (g.T.Text.bytes c.in_ok-end.end) ends in
    let p = err_from_is_err_and c.from_residual-in_err-rest.result c.from_residual-in_err-rest.ensures.1 in
    rw (p.1, p.2) (end_unread form (take form.least c.args.fixed) words call found.0 found.1 _
    (rw c.in_err-rest.was at c.after_ending.ensures
    ∙ (λ i. after_ending (c.as_bytes-close.ensures.value i) ((c.call_left.ensures ∙ ap (call_left call) found.2) i))))

pub returns-in_err-rest-2 : goal.returns-in_err-rest-2
returns-in_err-rest-2 g c =
    let form : Form = as_form c.args.row.now in
    let words : List ℕ = or_commas form.tail (g.T.Text.bytes c.args.words) in
    let call : List ℕ = tidied_rest c.args.call.is_open (g.T.Text.bytes c.args.call.text) in
    let rest : List ℕ = tidied_rest c.in_ok-rest.rest.is_open (g.T.Text.bytes c.in_ok-rest.rest.text) in
    let ends : Some (g.T.Text.bytes c.in_ok-end.end) ≡ past (tail_read form.tail form.close words) =
    sym (ok_some (past (tail_read form.tail c.as_bytes-close.result.now words)) (text_stop form.tail words) (g.T.Text.bytes c.in_ok-end.end)
    (sym (rw c.in_ok-end.was at c.words_end.ensures))) ∙ ap (λ (l : List ℕ). past (tail_read form.tail l words)) c.as_bytes-close.ensures.value in
    let found = past_some (tail_read form.tail form.close words) (g.T.Text.bytes c.in_ok-end.end) ends in
    let start : Ok rest ≡ after_ending form.close (call_left call found.0.1) =
    rw c.in_ok-rest.was at c.after_ending.ensures
    ∙ (λ i. after_ending (c.as_bytes-close.ensures.value i) ((c.call_left.ensures ∙ ap (call_left call) found.2) i)) in
    let p = err_from_is_err_and c.from_residual-in_err-rest-2.result c.from_residual-in_err-rest-2.ensures.1 in
    rw (p.1, p.2) (fields_unread form (take form.least c.args.fixed) words call found.0 found.1 rest _ start
    (rw (c.in_err-rest-2.was, c.as_slice.ensures) at c.read_pieces.ensures))

pub returns : goal.returns
returns g c =
    let form : Form = as_form c.args.row.now in
    let words : List ℕ = or_commas form.tail (g.T.Text.bytes c.args.words) in
    let call : List ℕ = tidied_rest c.args.call.is_open (g.T.Text.bytes c.args.call.text) in
    let rest : List ℕ = tidied_rest c.in_ok-rest.rest.is_open (g.T.Text.bytes c.in_ok-rest.rest.text) in
    let last : List ℕ = tidied_rest c.in_ok-rest-2.rest.is_open (g.T.Text.bytes c.in_ok-rest-2.rest.text) in
    let content : List ℕ = c.read_pieces.new.content in
    let ends : Some (g.T.Text.bytes c.in_ok-end.end) ≡ past (tail_read form.tail form.close words) =
    sym (ok_some (past (tail_read form.tail c.as_bytes-close.result.now words)) (text_stop form.tail words) (g.T.Text.bytes c.in_ok-end.end)
    (sym (rw c.in_ok-end.was at c.words_end.ensures))) ∙ ap (λ (l : List ℕ). past (tail_read form.tail l words)) c.as_bytes-close.ensures.value in
    let found = past_some (tail_read form.tail form.close words) (g.T.Text.bytes c.in_ok-end.end) ends in
    let start : Ok rest ≡ after_ending form.close (call_left call found.0.1) =
    rw c.in_ok-rest.was at c.after_ending.ensures
    ∙ (λ i. after_ending (c.as_bytes-close.ensures.value i) ((c.call_left.ensures ∙ ap (call_left call) found.2) i)) in
    let set = rw (c.in_ok-rest-2.was, c.as_slice.ensures) at c.read_pieces.ensures in
    let size : length content ≡ form.least = grind (arith, common_steps) in
    c.words_told.ensures found.0 found.1
    ∙ ap (λ (l : List ℕ). ok_or (told_in form (Some (l ++ found.0.0, last))) (stop_at last expected.Untold)) (take_at content (drop form.least c.args.fixed) form.least size)
    ∙ from_text form (take form.least c.args.fixed) words call found.0 found.1 rest start (content, last) set
