use Rattle.std.proofs.Common.{◌≡◌, ◌-◌, ◌∙◌, ℕ, List, arith, false, true, length, sym}
use Rattle.std.proofs.lemmas.Result.{err_from_is_err_and}
use Rattle.uefi_node_steps.specs.Leaves.{ByteLeaf, has_comma, many_read}
use Rattle.uefi_node_steps.specs.Steps.{item_leaf, item_of}
use Rattle.uefi_node_steps.proofs.Fills.{listed_err, listed_is, listed_ok, none_listed}
use Rattle.uefi_node_steps.proofs.reading.read_items.Goals as goal

pub returns-then-not-has_comma : goal.returns-then-not-has_comma
returns-then-not-has_comma g c =
    let leaf : ByteLeaf = item_leaf (item_of c.args.items) in
    let text : List ℕ = g.T.Text.codes c.args.text in
    let none : has_comma (g.T.Text.codes c.items.rest) ≡ false = cc (c.has_comma.ensures, c.if-not-has_comma.true) in
    sym (none_listed has_comma leaf (g.S.Sink.content c.items.tail) (length text - c.items.counter) (g.T.Text.codes c.items.rest) none)
    ∙ c.items.invariant ∙ sym (listed_is has_comma leaf (g.S.Sink.content c.args.tail.now) (many_read has_comma leaf (length text) text))

pub returns-in_err-rest : goal.returns-in_err-rest
returns-in_err-rest g c =
    let leaf : ByteLeaf = item_leaf (item_of c.args.items) in
    let text : List ℕ = g.T.Text.codes c.args.text in
    let some : has_comma (g.T.Text.codes c.items.rest) ≡ true = cc (c.has_comma.ensures, c.if-not-has_comma.false) in
    let read = rw c.in_err-rest.was at c.read_next.ensures in
    let e = listed_err has_comma leaf (g.S.Sink.content c.items.tail) (length text) c.items.counter (g.T.Text.codes c.items.rest) _ (omega arith) some read in
    let p = err_from_is_err_and c.from_residual.result c.from_residual.ensures.1 in
    rw (p.1, p.2) (sym e ∙ c.items.invariant ∙ sym (listed_is has_comma leaf (g.S.Sink.content c.args.tail.now) (many_read has_comma leaf (length text) text)))

pub items-preserved : goal.items-preserved
items-preserved g c =
    let leaf : ByteLeaf = item_leaf (item_of c.args.items) in
    let text : List ℕ = g.T.Text.codes c.args.text in
    let some : has_comma (g.T.Text.codes c.items.rest) ≡ true = cc (c.has_comma.ensures, c.if-not-has_comma.false) in
    let read = rw c.in_ok-rest.was at c.read_next.ensures in
    sym (listed_ok has_comma leaf (g.S.Sink.content c.items.tail) (g.S.Sink.content c.read_next.new.tail) (length text) c.items.counter (g.T.Text.codes c.items.rest)
    (g.T.Text.codes c.in_ok-rest.rest) (omega arith) some read) ∙ c.items.invariant
