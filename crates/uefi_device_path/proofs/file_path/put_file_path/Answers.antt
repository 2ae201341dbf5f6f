-- What one more node adds is put.
use Rattle.std.proofs.Common.{◌≢◌, ◌∙◌, ap, sym, subst, ◌∷◌, [], ◌++◌, All, length, arith}
use Rattle.std.proofs.lemmas.Grind.{common_steps}
use Rattle.std.proofs.lemmas.Str.{encodes-append}
use Rattle.std.specs.Str.{encode_utf8_all}
use Rattle.uefi_text.proofs.Puts.{puts_as, puts_two}
use Rattle.uefi_device_nodes.specs.NodeViews.{node_of}
use Rattle.uefi_device_path.specs.FilePathBuffers.{EndsAs}
use Rattle.uefi_device_path.specs.FilePaths.{IsReadable, file_path}
use Rattle.uefi_device_path.proofs.Names.{file_path_more, named_all, named_more, readable_at}
use Rattle.uefi_device_path.proofs.Splits.{after_first, no_fault-AreNodes}
use Rattle.uefi_device_path.proofs.file_path.put_file_path.Goals as goal

pub take_first-requires : goal.take_first-requires
take_first-requires g c =
    let rest = c.loop-rest.rest.now in
    let some : length rest ≢ 0 = λ e. grind (arith, common_steps) in
    no_fault-AreNodes rest c.loop-rest.invariant.left some

pub put_node-end-requires : goal.put_node-end-requires
put_node-end-requires g c =
    let so_far = c.loop-rest.invariant in
    let node = node_of c.take_first.result.0 in
    let first = after_first c.loop-rest.rest.now c.take_first.result.1.now node so_far.left c.take_first.ensures.split in
    readable_at so_far.nodes node _ (subst (All IsReadable) (so_far.named.shown ∙ ap (λ ms. so_far.nodes ++ ms) first.1) c.requires.readable)

pub loop-rest-preserved : goal.loop-rest-preserved
loop-rest-preserved g c =
    let rest = c.loop-rest.rest.now in
    let node = node_of c.take_first.result.0 in
    let so_far = c.loop-rest.invariant in
    let nodes = so_far.nodes in
    let first = after_first rest c.take_first.result.1.now node so_far.left c.take_first.ensures.split in
    let readable : IsReadable node =
    readable_at nodes node _ (subst (All IsReadable) (so_far.named.shown ∙ ap (λ ms. nodes ++ ms) first.1) c.requires.readable) in
    let more = file_path_more nodes node in
    let added = c.put_node-end.ensures (file_path nodes) so_far.ends in
    record {
      left = first.0;
      nodes = nodes ++ node ∷ [];
      named = named_more c.args.bytes.now nodes node rest c.take_first.result.1.now (file_path nodes) (file_path (nodes ++ node ∷ []))
          so_far.named so_far.left c.take_first.ensures.split readable more;
      ends = subst (λ path. EndsAs path c.put_node-end.result) (sym more) added.1.ends;
      put = puts_two _ _ _ _ _ _ _ so_far.put added.2
          (sym (encodes-append (file_path nodes) added.0) ∙ ap encode_utf8_all (sym added.1.whole ∙ sym more));
    }

pub returns : goal.returns
returns g c =
    let so_far = c.loop-rest.invariant in
    let all = named_all c.args.bytes.now so_far.nodes c.loop-rest.rest.now (file_path so_far.nodes) so_far.named (grind (arith, common_steps)) in
    puts_as _ _ _ _ _ so_far.put (ap (λ ns. encode_utf8_all (file_path ns)) (sym all))
