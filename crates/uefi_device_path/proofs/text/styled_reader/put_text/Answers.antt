-- The nodes that the text is read as go into the sink, one after the other.
use Rattle.std.proofs.Common.{◌≡◌, ◌<◌, ◌≤◌, Bool, cond, drop, refl, rules, ◌∷◌, ◌++◌, [], ℕ, true, false, List, length, ap, sym, subst, ◌∙◌, arith}
use Rattle.std.specs.Prelude.{Result}
use Rattle.std.proofs.lemmas.Bool.Decides.{nat_tests}
use Rattle.std.proofs.lemmas.Result.{IfErr-at_err}
use Rattle.uefi_device_nodes.specs.Nodes.{Node}
use Rattle.uefi_node_reader.specs.ReadNodes.{node_from_text}
use Rattle.uefi_node_reader.specs.declared.errors.faults.NodeFault.{NodeFault}
use Rattle.uefi_node_reader.specs.declared.styles.TextStyle.{TextStyle}
use Rattle.uefi_device_path.specs.Building.{build_refusal}
use Rattle.uefi_device_path.specs.AroundNodes.{before_closing}
use Rattle.uefi_device_path.specs.PathReading.{end_instance, is_after_instance}
use Rattle.uefi_node_reader.specs.Styles.{styled_read}
use Rattle.uefi_device_path.specs.StyledReading.{fault_from, follows_comma, place_read}
use Rattle.uefi_device_path.specs.declared.text.text_errors.TextFault.{TextFault}
use Rattle.uefi_device_path.proofs.AroundNodes.{ends_within, place_ends}
use Rattle.uefi_device_path.proofs.PathReading.{accepted}
use Rattle.uefi_device_path.proofs.StyledReading.{follows_first, place_follows, Going, all_read, going_comma, going_first, going_node, going_stops, place_inside}
use Rattle.uefi_device_path.proofs.text.styled_reader.put_text.Goals as goal

-- what is read at a place is what is read there up to the mark that closes the text
read_there : (style : TextStyle) (text found : List ℕ) (nodes : List Node) (s comma : Bool) (rest place : List ℕ) → Going style text nodes s rest
    → is_after_instance rest ≡ false → place ≡ cond s rest (drop 1 rest) → 0 < length rest → found ≡ before_closing style text
    → (s ≡ true → comma ≡ follows_comma found rest) → (s ≡ false → comma ≡ false)
    → (r : Result (Node × List ℕ) NodeFault) → r ≡ styled_read style comma place → place_read style (before_closing style text) place ≡ r
read_there style text found nodes s comma rest place on other is some same early later r e =
    ap (λ (b : Bool). styled_read style b place) (sym (place_follows style text nodes s rest place on other is some comma
    (λ p. early p ∙ ap (λ (w : List ℕ). follows_comma w rest) same) later)) ∙ sym e

comma_after : (style : TextStyle) (text found : List ℕ) (nodes : List Node) (s : Bool) (rest after : List ℕ) → Going style text nodes s rest
    → found ≡ before_closing style text → rest ≡ 44 ∷ after → true ≡ follows_comma found after
comma_after style text found nodes s rest after on same is =
    follows_first (before_closing style text) on.ends.0 after (sym on.ends.1 ∙ is) ∙ ap (λ (w : List ℕ). follows_comma w after) (sym same)

fault_there : (found whole place : List ℕ) (at : NodeFault) (fault : TextFault) → found ≡ whole
    → fault ≡ fault_from found place at → fault ≡ fault_from whole place at
fault_there found whole place at fault same e = subst (λ (x : List ℕ). fault ≡ fault_from x place at) same e

pub follows_comma-at_comma-requires : goal.follows_comma-at_comma-requires
follows_comma-at_comma-requires g c =
    let around = c.around_nodes-whole.ensures in
    omega (arith, ap length around.first, ap length around.whole, ends_within _ _ (place_ends c.args.style (g.T.Text.bytes c.args.text)))

pub nodes-init : goal.nodes-init
nodes-init g c =
    let text = g.T.Text.bytes c.args.text in (
      [],
      subst (Going c.args.style text [] true) (sym c.around_nodes-whole.ensures.first) (going_first c.args.style text),
      c.requires,
      λ _. c.follows_comma-at_comma.ensures,
      λ e. cc e,
    )

pub put-requires : goal.put-requires
put-requires g c = ap build_refusal c.instance_end-node.ensures

pub nodes-preserved-in-Some : goal.nodes-preserved-in-Some
nodes-preserved-in-Some g c =
    let (nodes, on, grown, early, later) = c.nodes.invariant in
    let style = c.args.style in
    let text = g.T.Text.bytes c.args.text in
    let rest = g.T.Text.bytes c.nodes.rest in
    let after = g.T.Text.bytes c.in-Some.after in (
      nodes ++ end_instance ∷ [],
      (going_comma style text nodes c.nodes.at_start rest after on c.in-Some.ensures).0,
      subst (λ (n : Node). g.S.NodeSink.grown c.args.sink.now (nodes ++ n ∷ []) c.put.new.self) c.instance_end-node.ensures
          (c.put.ensures c.args.sink.now nodes grown),
      λ _. comma_after style text (g.T.Text.bytes c.around_nodes-whole.result.0) nodes c.nodes.at_start rest after on
          c.around_nodes-whole.ensures.whole c.in-Some.ensures,
      λ e. cc e,
    )

pub nodes-smaller-in-Some : goal.nodes-smaller-in-Some
nodes-smaller-in-Some g c =
    (going_comma c.args.style (g.T.Text.bytes c.args.text) c.nodes.invariant.0 c.nodes.at_start (g.T.Text.bytes c.nodes.rest) (g.T.Text.bytes c.in-Some.after)
    c.nodes.invariant.1 c.in-Some.ensures).1

pub fault_at-requires-clause-rest : goal.fault_at-requires-clause-rest
fault_at-requires-clause-rest g c =
    let within = place_inside c.args.style (g.T.Text.bytes c.args.text) c.nodes.invariant.0 c.nodes.at_start (g.T.Text.bytes c.nodes.rest)
    (g.T.Text.bytes c.node_start-place.result) c.nodes.invariant.1 c.in-None.ensures c.node_start-place.ensures in
    omega (arith, within, ap length c.around_nodes-whole.ensures.whole)

pub fault_at-requires-clause-byte : goal.fault_at-requires-clause-byte
fault_at-requires-clause-byte g c =
    let place = (g.T.Text.bytes c.node_start-place.result) in
    IfErr-at_err (λ (f : NodeFault). f.byte ≤ length place) (sym c.in-Err.ensures)
    (c.faults_lie_within.ensures c.args.style c.nodes.at_comma place)

pub returns-in-Err : goal.returns-in-Err
returns-in-Err g c =
    let (nodes, on, grown, early, later) = c.nodes.invariant in
    let style = c.args.style in
    let text = g.T.Text.bytes c.args.text in
    let rest = g.T.Text.bytes c.nodes.rest in
    let place = g.T.Text.bytes c.node_start-place.result in
    going_stops style text nodes c.nodes.at_start rest place on c.in-None.ensures c.node_start-place.ensures c.in-Err.found
    (read_there style text _ nodes c.nodes.at_start c.nodes.at_comma rest place on c.in-None.ensures c.node_start-place.ensures (search rules)
    c.around_nodes-whole.ensures.whole early later _ c.in-Err.ensures)
    c.fault_at.result (fault_there _ _ _ _ _ c.around_nodes-whole.ensures.whole c.fault_at.ensures)

pub put-requires-in-None : goal.put-requires-in-None
put-requires-in-None g c =
    let node : Node = node_from_text c.in-Ok.read.0 in
    let place = (g.T.Text.bytes c.node_start-place.result) in
    accepted c.nodes_are_read.ensures.fits node
    (c.styled_nodes_are_read.ensures.takes c.args.style c.nodes.at_comma place node (g.T.Text.bytes c.in-Ok.read.1) (sym c.in-Ok.ensures))

pub nodes-preserved : goal.nodes-preserved
nodes-preserved g c =
    let (nodes, on, grown, early, later) = c.nodes.invariant in
    let style = c.args.style in
    let text = g.T.Text.bytes c.args.text in
    let rest = g.T.Text.bytes c.nodes.rest in
    let place = g.T.Text.bytes c.node_start-place.result in
    let node : Node = node_from_text c.in-Ok.read.0 in
    let some : 0 < length rest = search rules in (
      nodes ++ node ∷ [],
      (going_node style text nodes c.nodes.at_start rest place on c.in-None.ensures c.node_start-place.ensures c.styled_nodes_are_read.ensures.ends node
          (g.T.Text.bytes c.in-Ok.read.1)
          (read_there style text _ nodes c.nodes.at_start c.nodes.at_comma rest place on c.in-None.ensures c.node_start-place.ensures some
          c.around_nodes-whole.ensures.whole early later _ c.in-Ok.ensures)).0,
      c.put-in-None.ensures c.args.sink.now nodes grown,
      λ e. cc e,
      λ _. refl,
    )

pub nodes-smaller : goal.nodes-smaller
nodes-smaller g c =
    let (nodes, on, grown, early, later) = c.nodes.invariant in
    let style = c.args.style in
    let text = g.T.Text.bytes c.args.text in
    let rest = g.T.Text.bytes c.nodes.rest in
    let place = g.T.Text.bytes c.node_start-place.result in
    (going_node style text nodes c.nodes.at_start rest place on c.in-None.ensures c.node_start-place.ensures c.styled_nodes_are_read.ensures.ends
    (node_from_text c.in-Ok.read.0) (g.T.Text.bytes c.in-Ok.read.1)
    (read_there style text _ nodes c.nodes.at_start c.nodes.at_comma rest place on c.in-None.ensures c.node_start-place.ensures (search rules)
    c.around_nodes-whole.ensures.whole early later _ c.in-Ok.ensures)).1

pub returns : goal.returns
returns g c =
    let (nodes, on, grown, early, later) = c.nodes.invariant in
    (nodes, all_read c.args.style (g.T.Text.bytes c.args.text) nodes c.nodes.at_start (g.T.Text.bytes c.nodes.rest) on (grind (arith, nat_tests)), grown)
