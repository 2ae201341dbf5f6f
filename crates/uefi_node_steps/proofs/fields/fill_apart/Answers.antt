use Rattle.std.proofs.Common.{[], ◌∷◌, ap, ◌∙◌, length, arith}
use Rattle.std.proofs.lemmas.Grind.{common_steps}
use Rattle.uefi_node_steps.specs.Leaves.{pairs}
use Rattle.uefi_node_steps.proofs.Fills.{apart_read}
use Rattle.uefi_node_steps.proofs.fields.fill_apart.Goals as goal

pub returns : goal.returns
returns g c =
    let first = rw c.in_ok-byte.was at c.one_byte.ensures in
    apart_read g.T.Text.codes (c.args.letter ∷ []) (length c.args.found.now) _ c.in_ok-byte.byte _ _ (g.T.Text.codes c.args.text)
    (g.T.Text.codes c.in_ok-byte.rest) _ (grind (arith, common_steps)) c.copy_from_slice.ensures.after (first ∙ ap (pairs 1).read c.at_digits.ensures) c.fill_behind.ensures
