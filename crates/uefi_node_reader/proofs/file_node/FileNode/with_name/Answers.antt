use Rattle.std.proofs.Common.{◌≡◌, Bool, true, List, ℕ, [], cond, leb, length, sym, ap, arith}
use Rattle.std.specs.Prelude.{Option, None, Some}
use Rattle.std.proofs.lemmas.Bool.{le-leb}
use Rattle.uefi_node_reader.specs.FileNodes.{rooted_data}
use Rattle.uefi_node_reader.proofs.ParsedNodes.{whole_count, whole_long}
use Rattle.uefi_node_reader.proofs.file_node.FileNode.with_name.Goals as goal

pub returns-then-len-gt65531 : goal.returns-then-len-gt65531
returns-then-len-gt65531 g c =
    let bytes : List ℕ = rooted_data (g.T.Text.bytes c.args.name) in
    let none : Option (List ℕ) = None in
    ap (λ (t : Bool). cond t (Some bytes) none)
    (sym (whole_long [] c.push_name-len.new.places bytes c.push_name-len.result c.push_name-len.ensures c.if-len-gt65531.true))

pub invariant_of-result : goal.invariant_of-result
invariant_of-result g c = (
  c.requires,
  whole_count [] c.push_name-len.new.places (rooted_data (g.T.Text.bytes c.args.name)) c.push_name-len.result c.push_name-len.ensures c.if-len-gt65531.false,
  c.if-len-gt65531.false,
)

pub returns : goal.returns
returns g c =
    let bytes : List ℕ = rooted_data (g.T.Text.bytes c.args.name) in
    let none : Option (List ℕ) = None in
    let count = whole_count [] c.push_name-len.new.places bytes c.push_name-len.result c.push_name-len.ensures c.if-len-gt65531.false in
    let yes : leb (length bytes) 0xfffb ≡ true = le-leb (length bytes) 0xfffb (omega (arith, count, c.if-len-gt65531.false)) in
    ap (λ (t : Bool). cond t (Some bytes) none) (sym yes)
