use Rattle.std.proofs.Common.{◌≡◌, true, ℕ, ◌+◌, ◌-◌, List, map, length, sym, subst, ap, ◌∙◌, arith}
use Rattle.std.proofs.lemmas.List.{length-map}
use Rattle.std.specs.List.{list_all}
use Rattle.std.specs.Prelude.{Option, None, Result, Ok, Err}
use Rattle.uefi_device_nodes.specs.Rows.{Form, as_form}
use Rattle.uefi_device_nodes.specs.Table.{forms, forms_from}
use Rattle.uefi_node_reader.specs.FirstLetters.{all_begin_in}
use Rattle.uefi_node_reader.specs.LenientCalls.{first_tried}
use Rattle.uefi_node_reader.specs.TableReading.{is_filled, is_sound}
use Rattle.uefi_node_reader.specs.declared.errors.faults.Stop.{Stop}
use Rattle.uefi_node_reader.proofs.FirstLetters.{none_tried}
use Rattle.uefi_node_reader.proofs.Groups.{group_filled, group_sound}
use Rattle.uefi_node_reader.proofs.LenientReads.{tried_step}
use Rattle.uefi_node_reader.proofs.exact.first_form.try_table.Goals as goal
use Rattle.uefi_node_reader.proofs.exact.first_form.try_table.Goals.{then-may_begin+in-Err, else-may_begin}

pub try_group-requires-clause-sound : goal.try_group-requires-clause-sound
try_group-requires-clause-sound g c =
    ap (λ (l : List Form). list_all is_sound l) c.group-rows.ensures.forms ∙ group_sound c.loop-index.index (omega (arith, c.loop-index-test.true))

pub try_group-requires-clause-filled : goal.try_group-requires-clause-filled
try_group-requires-clause-filled g c =
    ap (λ (l : List Form). list_all is_filled l) c.group-rows.ensures.forms ∙ group_filled c.loop-index.index (omega (arith, c.loop-index-test.true))

pub try_group-requires-clause-few : goal.try_group-requires-clause-few
try_group-requires-clause-few g c = omega (arith, c.loop-index.invariant.1, c.loop-index-test.true, c.group-rows.ensures.few)

pub returns-in-Ok : goal.returns-in-Ok
returns-in-Ok g c =
    tried_step (g.A.Attempt.tried c.args.attempt.now) c.loop-index.index c.loop-index-test.true
    (map as_form c.group-rows.result.now) c.group-rows.ensures.forms c.loop-index.before c.loop-index.furthest
    (first_tried (g.A.Attempt.tried c.args.attempt.now) 0 forms None) c.loop-index.invariant.0 (Ok (g.A.Attempt.seen c.in-Ok.read)) c.in-Ok.ensures

pub loop-index-preserved : goal.loop-index-preserved
loop-index-preserved g c =
    let tried : ℕ → Form → Result g.A.Attempt.Seen (Option Stop) = g.A.Attempt.tried c.args.attempt.now in
    let all = first_tried tried 0 forms None in
    let group : List Form = map as_form c.group-rows.result.now in
    let left : ℕ → Option Stop → Result g.A.Attempt.Seen (Option Stop) =
    λ n stop. first_tried tried (c.loop-index.before + n) (forms_from (c.loop-index.index + 1) (15 - (c.loop-index.index + 1))) stop in
    let step : (stop : Option Stop) → Err stop ≡ first_tried tried c.loop-index.before group c.loop-index.furthest
    → left (length c.group-rows.result.now) stop ≡ all =
    λ stop e. ap (λ (n : ℕ). left n stop) (sym (length-map c.group-rows.result.now as_form))
    ∙ tried_step tried c.loop-index.index c.loop-index-test.true group c.group-rows.ensures.forms
    c.loop-index.before c.loop-index.furthest all c.loop-index.invariant.0 (Err stop) e in
    let begin : all_begin_in c.first_letters.result group ≡ true = ap (all_begin_in c.first_letters.result) c.group-rows.ensures.forms ∙ c.first_letters.ensures in
    let next : left (length c.group-rows.result.now) c.if-may_begin.furthest ≡ all = elim c.if-may_begin.branch [
      | then-may_begin+in-Err w ↦ subst (λ (s : Option Stop). left (length c.group-rows.result.now) s ≡ all) (sym w.furthest-is) (step w.in-Err.stop w.in-Err.ensures)
      | else-may_begin w ↦ subst (λ (s : Option Stop). left (length c.group-rows.result.now) s ≡ all) (sym w.furthest-is)
          (step c.loop-index.furthest (sym (none_tried tried c.first_letters.result c.loop-index.before group c.loop-index.furthest
          (c.may_begin.ensures w.if-may_begin.false) begin)))
    ] in
    (next, omega (arith, c.loop-index.invariant.1, c.group-rows.ensures.few))
