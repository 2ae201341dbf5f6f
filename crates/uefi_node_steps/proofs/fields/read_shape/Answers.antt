use Rattle.std.proofs.Common.{◌≡◌, true, length, subst, sym, ◌∙◌}
use borrow.Author.Tests.{eqb-true}
use Rattle.uefi_node_steps.specs.Steps.{fits_shape, shape_leaf}
use Rattle.uefi_node_steps.specs.declared.steps.Shape.TheVariants.{Next}
use Rattle.uefi_node_steps.proofs.fields.read_shape.Goals as goal

pub returns-in-Next : goal.returns-in-Next
returns-in-Next g c =
    let fit : fits_shape Next (length c.args.found.now) ≡ true = subst (λ shape. fits_shape shape (length c.args.found.now) ≡ true) c.in-Next.is c.requires in
    let one = eqb-true (length c.args.found.now) 1 fit in
    c.fill_next.ensures ∙ (λ i. (shape_leaf (sym c.in-Next.is i) (sym one i)).read (g.T.Text.codes c.args.text))
