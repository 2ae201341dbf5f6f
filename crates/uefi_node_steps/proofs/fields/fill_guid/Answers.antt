use Rattle.std.proofs.Common.{ℕ, List, ap, codes, sym, ◌∙◌}
use Rattle.std.proofs.lemmas.Result.{err_from_is_err_and}
use Rattle.std.specs.Prelude.{Ok}
use Rattle.uefi_node_steps.specs.Leaves.{Read, after, at_digits, backwards, pairs}
use Rattle.uefi_node_steps.proofs.Fills.{all_five, five_2, five_3, five_4, five_5}
use Rattle.uefi_node_steps.proofs.fields.fill_guid.Goals as goal

abbrev first : List ℕ → Read (List ℕ)
first = (backwards 4).read

abbrev second : List ℕ → Read (List ℕ)
second = (after (codes "-") (backwards 2)).read

abbrev fourth : List ℕ → Read (List ℕ)
fourth = (after (codes "-") (pairs 2)).read

abbrev last : List ℕ → Read (List ℕ)
last = (after (codes "-") (pairs 6)).read

pub returns-in_err-b : goal.returns-in_err-b
returns-in_err-b g c =
    let a = ap first (sym c.at_digits.ensures) ∙ sym (rw c.in_ok-a.was at c.four_reversed.ensures) in
    let e = five_2 first second second fourth last (at_digits (g.T.Text.codes c.args.text)) _ _ a (sym (rw c.in_err-b.was at c.next_reversed.ensures)) in
    let p = err_from_is_err_and c.from_residual-in_err-b.result c.from_residual-in_err-b.ensures.1 in rw (p.1, p.2) (sym e)

pub returns-in_err-c : goal.returns-in_err-c
returns-in_err-c g c =
    let a = ap first (sym c.at_digits.ensures) ∙ sym (rw c.in_ok-a.was at c.four_reversed.ensures) in
    let b = sym (rw c.in_ok-b.was at c.next_reversed.ensures) in
    let e = five_3 first second second fourth last (at_digits (g.T.Text.codes c.args.text)) _ _ _ a b (sym (rw c.in_err-c.was at c.next_reversed-2.ensures)) in
    let p = err_from_is_err_and c.from_residual-in_err-c.result c.from_residual-in_err-c.ensures.1 in rw (p.1, p.2) (sym e)

pub returns-in_err-d : goal.returns-in_err-d
returns-in_err-d g c =
    let a = ap first (sym c.at_digits.ensures) ∙ sym (rw c.in_ok-a.was at c.four_reversed.ensures) in
    let b = sym (rw c.in_ok-b.was at c.next_reversed.ensures) in
    let c' = sym (rw c.in_ok-c.was at c.next_reversed-2.ensures) in
    let e = five_4 first second second fourth last (at_digits (g.T.Text.codes c.args.text)) _ _ _ _ a b c' (sym (rw c.in_err-d.was at c.next_two.ensures)) in
    let p = err_from_is_err_and c.from_residual-in_err-d.result c.from_residual-in_err-d.ensures.1 in rw (p.1, p.2) (sym e)

pub returns-in_err-e : goal.returns-in_err-e
returns-in_err-e g c =
    let a = ap first (sym c.at_digits.ensures) ∙ sym (rw c.in_ok-a.was at c.four_reversed.ensures) in
    let b = sym (rw c.in_ok-b.was at c.next_reversed.ensures) in
    let c' = sym (rw c.in_ok-c.was at c.next_reversed-2.ensures) in
    let d = sym (rw c.in_ok-d.was at c.next_two.ensures) in
    let e = five_5 first second second fourth last (at_digits (g.T.Text.codes c.args.text)) _ _ _ _ _ a b c' d (sym (rw c.in_err-e.was at c.next_six.ensures)) in
    let p = err_from_is_err_and c.from_residual-in_err-e.result c.from_residual-in_err-e.ensures.1 in rw (p.1, p.2) (sym e)

pub returns : goal.returns
returns g c =
    let a = ap first (sym c.at_digits.ensures) ∙ sym (rw c.in_ok-a.was at c.four_reversed.ensures) in
    let b = sym (rw c.in_ok-b.was at c.next_reversed.ensures) in
    let c' = sym (rw c.in_ok-c.was at c.next_reversed-2.ensures) in
    let d = sym (rw c.in_ok-d.was at c.next_two.ensures) in
    let f = sym (rw c.in_ok-e.was at c.next_six.ensures) in
    ap (λ (l : List ℕ). Ok (l, g.T.Text.codes c.in_ok-e.rest)) c.copy_from_slice.ensures.after
    ∙ sym (all_five first second second fourth last (at_digits (g.T.Text.codes c.args.text)) _ _ _ _ _ a b c' d f)
