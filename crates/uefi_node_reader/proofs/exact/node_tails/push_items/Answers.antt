use Rattle.std.proofs.Common.{◌≡◌, ℕ, suc, ◌+◌, ◌-◌, ◌<◌, List, length, sym, ap, ◌∙◌, arith}
use Rattle.std.specs.Prelude.{Option, Some, None, option_and_then}
use Rattle.std.specs.Option.{option_map}
use Rattle.uefi_device_nodes.specs.Rows.{Item, as_item}
use Rattle.uefi_node_reader.specs.CountedBytes.{put_on}
use Rattle.uefi_node_reader.specs.WordReading.{after}
use Rattle.uefi_node_reader.specs.TableReading.{items_read}
use Rattle.uefi_node_reader.proofs.ListReads.{list_ends, next_item, no_item}
use Rattle.uefi_node_reader.proofs.exact.node_tails.push_items.Goals as goal

-- what is left after the start of an item
begun : {A : Type 0} (bytes : A → List ℕ) (start literal rest : List ℕ) (found o : Option A) → literal ≡ start
    → option_map bytes found ≡ after literal rest → found ≡ o → after start rest ≡ option_map bytes o
begun bytes start literal rest found o same e is =
    ap (λ (l : List ℕ). after l rest) (sym same) ∙ sym e ∙ ap (option_map bytes) is

one_less : (n k : ℕ) → k < n → suc (n - (k + 1)) ≡ n - k
one_less n k l = omega arith

pub returns : goal.returns
returns g c =
    let none : length (g.T.Text.bytes c.args.text) - c.items.counter ≡ 0 = omega (arith, c.items-test.false) in
    ap (λ (n : ℕ). option_and_then (put_on (c.items.places, c.items.count)) (items_read n (as_item c.args.item.now) (g.T.Text.bytes c.items.rest))) (sym none)
    ∙ c.items.invariant

pub returns-in_default : goal.returns-in_default
returns-in_default g c =
    let item : Item = as_item c.args.item.now in
    let none : after item.start (g.T.Text.bytes c.items.rest) ≡ None =
    begun g.T.Text.bytes item.start c.as_bytes.result.now (g.T.Text.bytes c.items.rest) c.after.result None c.as_bytes.ensures.value c.after.ensures c.in_default.is in
    sym (list_ends item (length (g.T.Text.bytes c.args.text) - c.items.counter) (c.items.places, c.items.count) (g.T.Text.bytes c.items.rest) none) ∙ c.items.invariant

pub returns-in_err-more : goal.returns-in_err-more
returns-in_err-more g c =
    let item : Item = as_item c.args.item.now in
    let most : ℕ = length (g.T.Text.bytes c.args.text) - (c.items.counter + 1) in
    let state : List ℕ × ℕ = (c.items.places, c.items.count) in
    let some : after item.start (g.T.Text.bytes c.items.rest) ≡ Some (g.T.Text.bytes c.in-Some.fields) =
    begun g.T.Text.bytes item.start c.as_bytes.result.now (g.T.Text.bytes c.items.rest) c.after.result (Some c.in-Some.fields) c.as_bytes.ensures.value c.after.ensures c.in-Some.is in
    rw c.from_residual.ensures (sym (no_item item most state (g.T.Text.bytes c.items.rest) (g.T.Text.bytes c.in-Some.fields) some (rw c.in_err-more.was at c.push_item.ensures))
    ∙ ap (λ (n : ℕ). option_and_then (put_on state) (items_read n item (g.T.Text.bytes c.items.rest)))
    (one_less (length (g.T.Text.bytes c.args.text)) c.items.counter (omega (arith, c.items-test.true, c.len-end.ensures)))
    ∙ c.items.invariant)

pub items-preserved : goal.items-preserved
items-preserved g c =
    let item : Item = as_item c.args.item.now in
    let most : ℕ = length (g.T.Text.bytes c.args.text) - (c.items.counter + 1) in
    let state : List ℕ × ℕ = (c.items.places, c.items.count) in
    let some : after item.start (g.T.Text.bytes c.items.rest) ≡ Some (g.T.Text.bytes c.in-Some.fields) =
    begun g.T.Text.bytes item.start c.as_bytes.result.now (g.T.Text.bytes c.items.rest) c.after.result (Some c.in-Some.fields) c.as_bytes.ensures.value c.after.ensures c.in-Some.is in
    next_item item most state (g.T.Text.bytes c.items.rest) (g.T.Text.bytes c.in-Some.fields) some (c.push_item.new.places, c.in_ok-more.more) (g.T.Text.bytes c.in_ok-more.others)
    (rw c.in_ok-more.was at c.push_item.ensures)
    ∙ ap (λ (n : ℕ). option_and_then (put_on state) (items_read n item (g.T.Text.bytes c.items.rest)))
    (one_less (length (g.T.Text.bytes c.args.text)) c.items.counter (omega (arith, c.items-test.true, c.len-end.ensures)))
    ∙ c.items.invariant
