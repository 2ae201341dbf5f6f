use Rattle.std.proofs.Common.{◌≡◌, true, List, ℕ, ◌&&◌, drop, sym, ◌∙◌}
use Rattle.std.specs.List.{list_all, position_or_len}
use Rattle.std.specs.Str.{chars, is_utf8}
use Rattle.uefi_node_reader.specs.NamedFiles.{ends_name, is_name_char, name_bytes}
use Rattle.uefi_node_reader.proofs.FileNodes.{root_long, root_none, root_some}
use Rattle.uefi_node_reader.proofs.file_node.after_root.Goals as goal

pub returns-then-not-has_name_chars : goal.returns-then-not-has_name_chars
returns-then-not-has_name_chars g c =
    let text : List ℕ = g.T.Text.bytes c.args.text in
    let n : List ℕ = g.T.Text.bytes c.split_name-name.result.0 in
    let is : n ≡ name_bytes text = c.split_name-name.ensures.name in
    root_none text n is (sym c.if-not-has_name_chars.true ∙ c.has_name_chars.ensures)

pub returns-in_err-node : goal.returns-in_err-node
returns-in_err-node g c =
    let text : List ℕ = g.T.Text.bytes c.args.text in
    let n : List ℕ = g.T.Text.bytes c.split_name-name.result.0 in
    let is : n ≡ name_bytes text = c.split_name-name.ensures.name in
    let all : is_utf8 n && list_all is_name_char (chars n) ≡ true = sym c.has_name_chars.ensures ∙ c.if-not-has_name_chars.false in
    rw c.from_residual.ensures (root_long text n is all (rw c.in_err-node.was at c.with_name.ensures))

pub returns : goal.returns
returns g c =
    let text : List ℕ = g.T.Text.bytes c.args.text in
    let n : List ℕ = g.T.Text.bytes c.split_name-name.result.0 in
    let is : n ≡ name_bytes text = c.split_name-name.ensures.name in
    let all : is_utf8 n && list_all is_name_char (chars n) ≡ true = sym c.has_name_chars.ensures ∙ c.if-not-has_name_chars.false in
    let left : g.T.Text.bytes c.split_name-name.result.1 ≡ drop (position_or_len ends_name text) text = c.split_name-name.ensures.rest in
    root_some text n is all c.in_ok-node.node _ (rw c.in_ok-node.was at c.with_name.ensures) left
