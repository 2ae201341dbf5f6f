-- The node of a connection over IP version 6 that a call tells is told.
use Rattle.std.proofs.Common.{◌≡◌, ℕ, true, leb, ◌&&◌, List, length, take, drop, subst, inl, arith}
use Rattle.std.specs.Prelude.{All, Option, Some}
use Rattle.std.proofs.NetLemmas.Options.{and_then_some, cond_some}
use Rattle.std.proofs.lemmas.Bool.{and_parts}
use Rattle.std.proofs.lemmas.List.{drop_all}
use borrow.Author.Tests.{eqb-true}
use Rattle.uefi_text.specs.Packed.{IsByte}
use Rattle.uefi_device_nodes.specs.Rows.{Form, find_form}
use Rattle.uefi_device_nodes.specs.Table.{forms}
use Rattle.uefi_device_nodes.specs.declared.node_table.rows.Tail.{Tail}
use Rattle.uefi_device_nodes.specs.declared.node_table.rows.Tail.TheVariants.{Nothing}
use Rattle.uefi_device_nodes.specs.Nodes.{Node, node_with}
use Rattle.uefi_node_reader.specs.CompleteTexts.{tells, tells_data, tells_fixed, tells_tail}
use Rattle.uefi_node_reader.specs.NamedFiles.{IsTold}
use Rattle.uefi_node_reader.specs.ShortAddresses.{call_data, is_fixed, short_ipv6, told_fixed}
use Rattle.uefi_node_reader.specs.TableReading.{IsTailTold, is_exact, prints}
use Rattle.uefi_node_reader.proofs.CallBytes.{call_bytes}
use Rattle.uefi_node_reader.proofs.ToldNodes.{tells_told}

-- a form that ends with its fixed part tells no data after it
fixed_told : (form : Form) (tail : Tail) (close content : List ℕ) → is_fixed tail ≡ true
    → tells_tail form form.least tail close (length content) ≡ true → IsTailTold tail close (drop form.least content)
fixed_told form Nothing close content f e = drop_all form.least content (omega (arith, eqb-true (length content) form.least e))
fixed_told form tail close content f e = cc

-- the test for the data after the fixed part, of the form that a node is printed in
tail_tells : (form : Form) (node : Node) → find_form (prints node) forms ≡ Some form → tells form node ≡ true
    → tells_tail form form.least form.tail form.close (length node.content) ≡ true
unfolding tells
tail_tells form node found e =
    let fits = and_parts (leb (length node.content) 0xfffb) (tells_data form node.content (find_form (prints node) forms)) e in
    let read = and_parts (is_exact form.mode) (tells_fixed form (take form.least node.content) && tells_tail form form.least form.tail form.close (length node.content))
    (subst (λ (o : Option Form). tells_data form node.content o ≡ true) found fits.1) in
    (and_parts (tells_fixed form (take form.least node.content)) (tells_tail form form.least form.tail form.close (length node.content)) read.1).1

fixed_is_told : (made node : Node) → All IsByte made.content → told_fixed made ≡ Some node → IsTold node
fixed_is_told made node bytes e =
    and_then_some _ (find_form (prints made) forms) node e λ form found is.
    let kept = cond_some (is_fixed form.tail && tells form made) made node is in
    let tests = and_parts (is_fixed form.tail) (tells form made) kept.0 in
    subst IsTold kept.1 (inl (tells_told form made (record {
      bytes = bytes;
      tail = fixed_told form form.tail form.close made.content tests.0 (tail_tells form made found tests.1);
    }) tests.1))

-- what is read of a call is told
pub short_told : (text : List ℕ) (node : Node) → short_ipv6 text ≡ Some node → IsTold node
unfolding short_ipv6
short_told text node e =
    and_then_some _ (call_data text) node e λ content is told.
    fixed_is_told (node_with 3 13 content) node (call_bytes text content is) told
