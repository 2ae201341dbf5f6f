-- One more node has a name, or is the first that has none.
use Rattle.std.proofs.Common.{◌≢◌, ◌∙◌, ap, sym, subst, ◌∷◌, [], ◌++◌, All, length, arith}
use Rattle.std.proofs.lemmas.Grind.{common_steps}
use Rattle.uefi_text.specs.Units.{IsText}
use Rattle.uefi_device_nodes.specs.NodeViews.{node_of}
use Rattle.uefi_device_path.specs.FilePaths.{IsReadable, file_path}
use Rattle.uefi_device_path.proofs.Names.{file_path_more, named_all, named_more}
use Rattle.uefi_device_path.proofs.Splits.{after_first, no_fault-AreNodes}
use Rattle.uefi_device_path.proofs.file_path.check_names.Goals as goal

pub take_first-requires : goal.take_first-requires
take_first-requires c =
    let rest = c.loop-rest.rest.now in
    let some : length rest ≢ 0 = λ e. grind (arith, common_steps) in
    no_fault-AreNodes rest c.loop-rest.invariant.left some

pub returns-in-Err-clause-refusal : goal.returns-in-Err-clause-refusal
returns-in-Err-clause-refusal c =
    let rest = c.loop-rest.rest.now in
    let node = node_of c.take_first.result.0 in
    let so_far = c.loop-rest.invariant in
    let named = so_far.named in
    let first = after_first rest c.take_first.result.1.now node so_far.left c.take_first.ensures.split in
    let long = named.long in (
      so_far.nodes,
      node,
      _,
      record {
        split = named.shown ∙ ap (λ ms. so_far.nodes ++ ms) first.1;
        readable = named.readable;
        file = c.in-Err.ensures.file;
        cause = c.in-Err.ensures.refusal;
        offset = omega (arith, long);
      },
    )

pub loop-rest-preserved : goal.loop-rest-preserved
loop-rest-preserved c =
    let rest = c.loop-rest.rest.now in
    let node = node_of c.take_first.result.0 in
    let so_far = c.loop-rest.invariant in
    let nodes = so_far.nodes in
    let first = after_first rest c.take_first.result.1.now node so_far.left c.take_first.ensures.split in
    record {
      left = first.0;
      nodes = nodes ++ node ∷ [];
      named = named_more c.args.bytes.now nodes node rest c.take_first.result.1.now (file_path nodes) (file_path (nodes ++ node ∷ []))
          so_far.named so_far.left c.take_first.ensures.split c.in-Ok.ensures.readable (file_path_more nodes node);
      text = subst IsText (sym (file_path_more nodes node)) (c.in-Ok.ensures.text (file_path nodes) so_far.text);
    }

pub returns-clause-readable : goal.returns-clause-readable
returns-clause-readable c =
    let so_far = c.loop-rest.invariant in
    let all = named_all c.args.bytes.now so_far.nodes c.loop-rest.rest.now (file_path so_far.nodes) so_far.named (grind (arith, common_steps)) in
    subst (All IsReadable) (sym all) so_far.named.readable

pub returns-clause-text : goal.returns-clause-text
returns-clause-text c =
    let so_far = c.loop-rest.invariant in
    let all = named_all c.args.bytes.now so_far.nodes c.loop-rest.rest.now (file_path so_far.nodes) so_far.named (grind (arith, common_steps)) in
    subst (λ ns. IsText (file_path ns)) (sym all) so_far.text
