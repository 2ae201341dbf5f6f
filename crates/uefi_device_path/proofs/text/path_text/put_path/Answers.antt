-- One instance more is put.
use Rattle.std.proofs.Common.{◌≡◌, [], ◌∷◌, ◌++◌, codes, ap, refl, ◌∙◌, arith}
use Rattle.std.proofs.lemmas.Grind.{common_steps}
use Rattle.uefi_text.proofs.Puts.{puts_as, puts_three}
use Rattle.uefi_device_path.specs.Instances.{instances, instances_in}
use Rattle.uefi_device_path.specs.Paths.{nodes_in}
use Rattle.uefi_device_path.specs.PathTexts.{instance_text_by}
use Rattle.uefi_device_path.proofs.PathTexts.{after_more, after_none, first_piece}
use Rattle.uefi_device_path.proofs.text.path_text.put_path.Goals as goal

pub instances-init : goal.instances-init
instances-init g c =
    let text = instance_text_by (g.F.NodeForm.node_text c.args.form) in
    record {
      left = c.cut_instance.ensures.rest;
      so_far = text (nodes_in c.cut_instance.result.0.now);
      rest = first_piece text (codes ",") (instances (nodes_in c.args.bytes.now)) (instances_in c.cut_instance.result.1) (nodes_in c.cut_instance.result.0.now) c.cut_instance.ensures.cut;
      put = c.put_instance.ensures;
    }

pub instances-preserved : goal.instances-preserved
instances-preserved g c =
    let text = instance_text_by (g.F.NodeForm.node_text c.args.form) in
    let cut = c.cut_instance-in-Some in
    let so_far = c.instances.invariant in
    let same : instances_in c.instances.rest ≡ nodes_in cut.result.0.now ∷ instances_in cut.result.1 =
    ap instances_in c.in-Some.is ∙ cut.ensures.cut in
    record {
      left = cut.ensures.rest;
      so_far = so_far.so_far ++ (codes "," ++ text (nodes_in cut.result.0.now));
      rest = after_more text (codes ",") so_far.so_far _ (instances_in c.instances.rest) (instances_in cut.result.1) (nodes_in cut.result.0.now) so_far.rest same;
      put = puts_three _ _ _ _ _ _ _ _ _ so_far.put c.put_str.ensures c.put_instance-in-Some.ensures refl;
    }

pub returns : goal.returns
returns g c =
    let so_far = c.instances.invariant in
    let none : instances_in c.instances.rest ≡ [] = grind (arith, common_steps) in
    puts_as _ _ _ _ _ so_far.put
    (after_none (instance_text_by (g.F.NodeForm.node_text c.args.form)) (codes ",") so_far.so_far _ (instances_in c.instances.rest) so_far.rest none)
