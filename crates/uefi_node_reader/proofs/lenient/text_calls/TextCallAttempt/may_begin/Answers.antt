use Rattle.std.proofs.Common.{◌≡◌, Bool, true, false, cond, ◌&&◌, ℕ, List, refl, sym, ◌∙◌}
use Rattle.std.specs.Prelude.{Option, Some, None, Result, Err}
use Rattle.std.specs.Result.{result_map_both}
use Rattle.uefi_device_nodes.specs.Nodes.{Node}
use Rattle.uefi_node_reader.specs.LenientCalls.{tidied_rest}
use Rattle.uefi_node_reader.specs.TextCalls.{holds_ids, holds_text, text_call_told, uid_call_told}
use Rattle.uefi_node_reader.specs.declared.errors.faults.Stop.{Stop}
use Rattle.uefi_node_reader.proofs.FirstLetters.{name_unread}
use Rattle.uefi_node_reader.proofs.lenient.text_calls.TextCallAttempt.may_begin.Goals as goal

no_call : (ids text name : Bool) (uid words : Result Node (Option Stop)) → name ≡ false
    → cond ids (cond (ids && name) uid (Err None)) (cond (text && name) words (Err None)) ≡ Err None
no_call true text true uid words e = cc
no_call true text false uid words e = refl
no_call false true true uid words e = cc
no_call false true false uid words e = refl
no_call false false name uid words e = refl

read : Result Node Stop → Result Node (Option Stop)
read told = result_map_both (λ (node : Node). node) (λ (stop : Stop). Some stop) told

pub returns : goal.returns
unfolding read
returns g c none place form begins =
    let front : List ℕ = g.T.Text.bytes c.args.self.now.front in
    let call : List ℕ = tidied_rest c.args.self.now.call.is_open (g.T.Text.bytes c.args.self.now.call.text) in
    no_call (holds_ids form.mode form.tail) (holds_text form.mode form.tail) _
    (read (uid_call_told form front call)) (read (text_call_told form front call))
    (name_unread c.args.letters form.start call begins (sym c.begins_in_either_case.ensures ∙ none))
