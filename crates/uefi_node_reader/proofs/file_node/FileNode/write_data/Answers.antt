use Rattle.std.proofs.Common.{◌≡◌, List, ℕ, [], length, sym, ap, ◌∙◌, arith}
use Rattle.uefi_node_reader.specs.FileNodes.{rooted_data}
use Rattle.uefi_node_reader.proofs.CountedBytes.{whole_written}
use Rattle.uefi_node_reader.proofs.file_node.FileNode.write_data.Goals as goal

pub returns : goal.returns
returns g c =
    let content : List ℕ = rooted_data (g.T.Text.bytes c.self.inside.name) in
    let size : length c.args.bytes.now ≡ length content = c.requires ∙ ap length (sym c.self.view_is) in
    ap (λ (s : List ℕ × ℕ). s.0) c.push_name.ensures
    ∙ whole_written [] content c.args.bytes.now size (omega (arith, size, c.self.invariant.1, c.self.invariant.2)) ∙ c.self.view_is
