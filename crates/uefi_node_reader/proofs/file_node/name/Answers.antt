use Rattle.std.proofs.Common.{◌≡◌, ◌∷◌, [], ap, arith}
use Rattle.uefi_node_reader.specs.TableReading.{first_of}
use Rattle.uefi_node_reader.proofs.FileNodes.{other_none}
use Rattle.uefi_node_reader.proofs.file_node.name.Goals as goal

pub returns-in_err-first : goal.returns-in_err-first
returns-in_err-first g c =
    let none : g.T.Text.bytes c.args.text ≡ [] = rw c.in_err-first.was at c.split_first.ensures in
    rw c.from_residual.ensures (other_none (g.T.Text.bytes c.args.text) (λ h. omega (arith, ap first_of none, h)))

pub returns-then-first-ne92 : goal.returns-then-first-ne92
returns-then-first-ne92 g c =
    let is : g.T.Text.bytes c.args.text ≡ c.in_ok-first.first ∷ g.T.Text.bytes c.in_ok-first.rest = rw c.in_ok-first.was at c.split_first.ensures in
    other_none (g.T.Text.bytes c.args.text) (λ h. omega (arith, ap first_of is, h, c.if-first-ne92.true))
