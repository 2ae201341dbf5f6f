-- In the style of printed texts, a text is read as the nodes whose text it is, or it stops where it stops being one.
use Rattle.std.proofs.Common.{◌≡◌, ℕ, Bool, false, List, refl, sym, ap, subst, ◌∙◌}
use Rattle.std.specs.Prelude.{Ok, Err}
use Rattle.uefi_device_nodes.specs.Nodes.{Node}
use Rattle.uefi_device_path.specs.Laws.{PrintedIsRead, PrintedStops, ReadIsPrinted, StopIsRead, StopsOnce, TextsNeverBoth, TextsOnce, printed_fault}
use Rattle.uefi_device_path.specs.PathReading.{NoneBegins, StopsAt}
use Rattle.uefi_device_path.specs.StyledReading.{follows_comma, path_read, place_read, ReadsTo}
use Rattle.uefi_device_path.specs.StyledReading.ReadsTo.{Begins, Comma, OneMore}
use Rattle.uefi_device_path.specs.PathTexts.{nodes_text}
use Rattle.uefi_device_path.specs.declared.text.text_errors.TextFault.{TextFault}
use Rattle.uefi_device_path.proofs.PathReading.{Going, done, node_begins, over_comma, over_node, stopped}
use Rattle.uefi_device_path.proofs.StyledReading.{all_taken, err_same, ok_same, reads_mean, stops_mean, told_on}
use Rattle.uefi_node_reader.specs.Laws.{NodeAgain, NodeFits, NodeTakes}
use Rattle.uefi_node_reader.specs.NamedFiles.{node_read}
use Rattle.uefi_node_reader.specs.Styles.{PrintedExactly, StyledAgain, StyledEnds, StyledStarts, StyledTakes}
use Rattle.uefi_node_reader.specs.declared.errors.faults.NodeFault.{NodeFault}
use Rattle.uefi_node_reader.specs.declared.styles.TextStyle.TheVariants.{Printed}

module _ (styled_starts : StyledStarts) (exactly : PrintedExactly) (ends : StyledEnds) (takes : NodeTakes) (fits : NodeFits)
    (text : List ℕ) where
  going : {nodes : List Node} {s : Bool} {rest : List ℕ} → ReadsTo Printed text nodes s rest → Going text nodes s rest
  going Begins = record { splits = refl; start = refl }
  going (Comma nodes s rest on) = over_comma text nodes s rest (going on)
  going (OneMore nodes s node place rest on read) =
      let r = follows_comma text place in
      over_node fits text nodes s place rest node (going on)
      (node_begins takes place node rest (exactly r place node rest read) (ends Printed r place node rest read).1)

  printed_done : (nodes : List Node) → path_read Printed text ≡ Ok nodes → nodes_text false false nodes ≡ text
  printed_done nodes is =
      let (s, on) = (reads_mean Printed text styled_starts ends nodes).0 is in done text nodes s (going on)

pub read_is_printed : StyledStarts → PrintedExactly → StyledEnds → NodeTakes → NodeFits → ReadIsPrinted
read_is_printed = printed_done

none_begins : NodeAgain → StyledAgain → (text place : List ℕ) (found : NodeFault) → place_read Printed text place ≡ Err found → NoneBegins place
none_begins again styled text place found refused node after is =
    cc (refused, styled Printed (follows_comma text place) place refl node after (ap node_read is.splits ∙ again node is.told after is.ends) is.ends)

pub printed_stops : StyledStarts → PrintedExactly → StyledEnds → StyledAgain → StyledTakes → NodeTakes → NodeAgain → NodeFits → PrintedStops
printed_stops styled_starts exactly ends styled told takes again fits text fault is =
    let (nodes, s, rest, stop) = (stops_mean Printed text styled_starts ends fault).0 is in
    subst (λ (n : ℕ). StopsAt text n) (sym (ap (λ (f : TextFault). f.node) stop.is))
    (stopped text nodes s rest (told_on Printed text told stop.reads) (going styled_starts exactly ends takes fits text stop.reads) stop.not_empty
    (none_begins again styled text rest stop.found stop.refused))

-- a text has one list of nodes, or one place where it stops
pub once : PrintedIsRead → TextsOnce
once printed nodes others told all e =
    let text = nodes_text false false others in
    ok_same nodes others (sym (printed Printed text nodes (all_taken nodes) told e) ∙ printed Printed text others (all_taken others) all refl)

pub stops_once : StopIsRead → StopsOnce
stops_once stops text place other first second =
    ap (λ (f : TextFault). f.node) (err_same (printed_fault place) (printed_fault other) (sym (stops text place first) ∙ stops text other second))

pub never_both : PrintedIsRead → StopIsRead → TextsNeverBoth
never_both printed stops nodes place told stop =
    let text = nodes_text false false nodes in
    cc (printed Printed text nodes (all_taken nodes) told refl, stops text place stop)
