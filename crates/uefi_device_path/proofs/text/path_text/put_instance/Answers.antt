-- One node more is put.
use Rattle.std.proofs.Common.{◌≡◌, ◌++◌, codes, length, refl, arith}
use Rattle.std.proofs.lemmas.Grind.{common_steps}
use Rattle.uefi_device_nodes.specs.NodeViews.{node_of}
use Rattle.uefi_device_path.specs.Paths.{nodes_in}
use Rattle.uefi_text.proofs.Puts.{puts_as, puts_three}
use Rattle.uefi_device_path.proofs.PathTexts.{after_more, after_none, first_piece}
use Rattle.uefi_device_path.proofs.Splits.{nodes_in-nil}
use Rattle.uefi_device_path.proofs.text.path_text.put_instance.Goals as goal

pub nodes-init : goal.nodes-init
nodes-init g c =
    let text = g.F.NodeForm.node_text c.args.form in
    record {
      left = c.cut_node.ensures.left;
      so_far = text (node_of c.cut_node.result.0);
      rest = first_piece text (codes "/") (nodes_in c.args.bytes.now) (nodes_in c.cut_node.result.1.now) (node_of c.cut_node.result.0) c.cut_node.ensures.cut;
      put = c.put_node.ensures;
    }

pub nodes-preserved : goal.nodes-preserved
nodes-preserved g c =
    let text = g.F.NodeForm.node_text c.args.form in
    let node = node_of c.cut_node-in-nodes.result.0 in
    let so_far = c.nodes.invariant in
    record {
      left = c.cut_node-in-nodes.ensures.left;
      so_far = so_far.so_far ++ (codes "/" ++ text node);
      rest = after_more text (codes "/") so_far.so_far _ (nodes_in c.nodes.rest.now) (nodes_in c.cut_node-in-nodes.result.1.now) node so_far.rest c.cut_node-in-nodes.ensures.cut;
      put = puts_three _ _ _ _ _ _ _ _ _ so_far.put c.put_str.ensures c.put_node-in-nodes.ensures refl;
    }

pub returns : goal.returns
returns g c =
    let so_far = c.nodes.invariant in
    let none : length c.nodes.rest.now ≡ 0 = grind (arith, common_steps) in
    puts_as _ _ _ _ _ so_far.put
    (after_none (g.F.NodeForm.node_text c.args.form) (codes "/") so_far.so_far _ (nodes_in c.nodes.rest.now) so_far.rest (nodes_in-nil c.nodes.rest.now none))
