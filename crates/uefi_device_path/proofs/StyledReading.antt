-- A text is read in a style in one way: what the function says is what the relation says.
use Rattle.std.proofs.Common.{◌≡◌, ◌↔◌, ℕ, zero, suc, ◌-◌, ◌<◌, ◌≤◌, Bool, true, false, cond, List, [], ◌∷◌, ◌++◌, length, drop, get_or, slice_index, inl, inr, refl, ap, sym, subst, ◌∙◌, append_assoc, add-zero, arith, true≢false}
use Rattle.std.specs.Option.{ok_or}
use Rattle.std.specs.Prelude.{All, Option, Some, None, Result, Ok, Err, ◌==◌, ◌&&◌, ◌||◌}
use Rattle.std.proofs.lemmas.Bool.{lt-ltb}
use Rattle.std.proofs.lemmas.List.{append-nil, drop_at, get_or-drop, length-append, length-drop}
use Rattle.std.proofs.lemmas.List.Elements.{All-cons, All-head, All-nil, All-push, All-tail}
use Rattle.std.proofs.lemmas.Result.{IfErr-at_err}
use borrow.Author.Tests.{eqb-true}
use Rattle.uefi_device_nodes.specs.Nodes.{Node, is_end_instance}
use Rattle.uefi_device_path.specs.Laws.{PrintedIsRead, StopIsRead}
use Rattle.uefi_device_path.specs.StyledReading.{follows_comma, place_read, Reads, ReadsTo, StopsBeingRead, fault_from, more_nodes, node_then, nodes_of_rest, path_read}
use Rattle.uefi_device_path.specs.StyledReading.ReadsTo.{Begins, Comma, OneMore}
use Rattle.uefi_device_path.specs.PathReading.{AreTold, NoneBegins, end_instance, is_after_instance, text_before}
use Rattle.uefi_device_path.specs.declared.text.text_errors.TextFault.{TextFault}
use Rattle.uefi_device_path.specs.AroundNodes.{before_closing, first_place}
use Rattle.uefi_device_path.proofs.AroundNodes.{Ends, all_is_read, closing_within, ends_more, ends_within, is_clear, place_ends}
use Rattle.uefi_device_path.proofs.FirstBytes.{node_clear}
use Rattle.uefi_device_path.proofs.PathReading.{IsToldOrEnd, end_first, no_end, node_begins, onto_after, onto_is, path_text_is, place_is, printed, rest_text, separator, starts_after, starts_after_is, text_before_is, text_onto, told_first}
use Rattle.uefi_node_reader.specs.Laws.{NodeAgain, NodeFits, NodeStarts, NodeTakes}
use Rattle.uefi_node_reader.specs.FieldReading.{read_if}
use Rattle.uefi_node_reader.specs.LenientNodes.{ended, fault_at_byte}
use Rattle.uefi_node_reader.proofs.StyledLaws.{takes_more}
use Rattle.uefi_node_reader.specs.Styles.{StyledAgain, styled_read, takes_printed, StyledEnds, StyledFaultWithin, StyledStarts, StyledTakes}
use Rattle.uefi_node_reader.specs.declared.errors.faults.NodeFault.{NodeFault}
use Rattle.uefi_node_reader.specs.declared.styles.TextStyle.{TextStyle}
use Rattle.uefi_node_reader.specs.declared.styles.TextStyle.TheVariants.{Printed}
use Rattle.uefi_node_reader.specs.NamedFiles.{is_after_node, node_read}
use Rattle.uefi_node_reader.specs.declared.errors.faults.Expected.TheVariants.{AsPrinted}

-- what is read of a text, or of what is left of it
abbrev pub Nodes : Type 0
Nodes = Result (List Node) TextFault

-- the nodes that were read, and those that are read then
abbrev pub onto : List Node → Nodes → Nodes
onto nodes (Ok more) = Ok (nodes ++ more)
onto nodes (Err fault) = Err fault

abbrev reading : List Node → Nodes
reading nodes = Ok nodes

pub ok_same : (nodes others : List Node) → reading nodes ≡ reading others → nodes ≡ others
ok_same nodes others e = cc

abbrev pub failing : TextFault → Nodes
failing fault = Err fault

pub err_same : (fault other : TextFault) → failing fault ≡ failing other → fault ≡ other
err_same fault other e = cc

onto_none : (r : Nodes) → onto [] r ≡ r
onto_none (Ok more) = refl
onto_none (Err fault) = refl

pub onto_more : (nodes : List Node) (node : Node) (r : Nodes) → onto nodes (more_nodes node r) ≡ onto (nodes ++ node ∷ []) r
onto_more nodes node (Ok more) = ap (λ (l : List Node). Ok l) (sym (append_assoc nodes (node ∷ []) more))
onto_more nodes node (Err fault) = refl

-- what begins no node ends no instance
no_instance : (t : List ℕ) → is_after_node t ≡ false → is_after_instance t ≡ false
no_instance [] e = e
no_instance (c ∷ cs) e = or (c == 47) (c == 44) e
  where
    or : (a b : Bool) → a || b ≡ false → b ≡ false
    or true b e = cc
    or false b e = e

at_place : (s : Bool) (place : List ℕ) → place ≡ cond s (separator s ++ place) (drop 1 (separator s ++ place))
at_place true place = refl
at_place false place = refl

not_ended : (s : Bool) (rest : List ℕ) → (s ≡ true → is_after_instance rest ≡ false) → is_after_instance (separator s ++ rest) ≡ false
not_ended true rest h = h refl
not_ended false rest h = refl

-- no node is read where none begins
none_read : NodeTakes → (text rest : List ℕ) → NoneBegins rest → place_read Printed text rest ≡ Err (fault_at_byte 0 AsPrinted)
unfolding styled_read
none_read takes text rest none = by (node_read rest) refl
  where
    by : (r : Option (Node × List ℕ)) → node_read rest ≡ r → ok_or (ended r) (fault_at_byte 0 AsPrinted) ≡ Err (fault_at_byte 0 AsPrinted)
    by None e = refl
    by (Some (node, after)) e = ending (is_after_node after) refl
      where
        ending : (t : Bool) → is_after_node after ≡ t
            → ok_or (read_if t node after) (fault_at_byte 0 AsPrinted) ≡ Err (fault_at_byte 0 AsPrinted)
        ending true p = absurd (none node after (node_begins takes rest node after e p))
        ending false p = refl

module _ (style : TextStyle) (text : List ℕ) where
  -- the nodes of what is left of a text
  abbrev pub left : Bool → List ℕ → Nodes
  left s rest = nodes_of_rest style text (suc (length rest)) s rest

  after_shorter : StyledEnds → (place : List ℕ) (node : Node) (after : List ℕ) → place_read style text place ≡ Ok (node, after)
      → length after < length place
  after_shorter ends place node after read =
      let end = (ends style (follows_comma text place) place node after read).0 in
      omega (arith, ap length end.2, length-append end.1 after)

  then_same : (place : List ℕ) (r : Result (Node × List ℕ) NodeFault) → place_read style text place ≡ r → (f g : List ℕ → Nodes)
      → ((node : Node) (after : List ℕ) → place_read style text place ≡ Ok (node, after) → f after ≡ g after)
      → node_then text place f r ≡ node_then text place g r
  then_same place (Ok read) is f g h = ap (more_nodes read.0) (h read.0 read.1 is)
  then_same place (Err found) is f g h = refl

  -- a bound that is long enough does not matter
  enough : StyledEnds → (m n : ℕ) (s : Bool) (rest : List ℕ) → length rest < m → length rest < n
      → nodes_of_rest style text m s rest ≡ nodes_of_rest style text n s rest
  enough ends zero n s rest l k = absurd (omega (arith, l))
  enough ends (suc m) zero s rest l k = absurd (omega (arith, k))
  enough ends (suc m) (suc n) s [] l k = refl
  enough ends (suc m) (suc n) s (c ∷ cs) l k = by (c == 44) (enough ends m n)
    where
      place : Bool → List ℕ
      place t = cond t (c ∷ cs) cs

      fits : (t : Bool) (after : List ℕ) → length after < length (place t) → length after < suc (length cs)
      fits true after h = h
      fits false after h = omega (arith, h)

      by : (b : Bool) → ((t : Bool) (r : List ℕ) → length r < m → length r < n → nodes_of_rest style text m t r ≡ nodes_of_rest style text n t r)
          → cond b (more_nodes end_instance (nodes_of_rest style text m true cs)) (node_then text (place s) (nodes_of_rest style text m false) (place_read style text (place s)))
          ≡ cond b (more_nodes end_instance (nodes_of_rest style text n true cs)) (node_then text (place s) (nodes_of_rest style text n false) (place_read style text (place s)))
      by true h = ap (more_nodes end_instance) (h true cs (omega (arith, l)) (omega (arith, k)))
      by false h = then_same (place s) (place_read style text (place s)) refl (nodes_of_rest style text m false) (nodes_of_rest style text n false)
          (λ node after read. let less = fits s after (after_shorter ends (place s) node after read) in
          h false after (omega (arith, less, l)) (omega (arith, less, k)))

  -- over a comma, over a node, and where none is read
  pub left_comma : (s : Bool) (rest after : List ℕ) → rest ≡ 44 ∷ after → left s rest ≡ more_nodes end_instance (left true after)
  left_comma s rest after is = ap (left s) is

  left_place : (s : Bool) (rest : List ℕ) → is_after_instance rest ≡ false
      → left s rest ≡ node_then text (cond s rest (drop 1 rest)) (nodes_of_rest style text (length rest) false) (place_read style text (cond s rest (drop 1 rest)))
  left_place s [] other = absurd (true≢false other)
  left_place s (c ∷ cs) other = ap (λ (b : Bool). cond b (more_nodes end_instance (nodes_of_rest style text (suc (length cs)) true cs))
      (node_then text (cond s (c ∷ cs) cs) (nodes_of_rest style text (suc (length cs)) false) (place_read style text (cond s (c ∷ cs) cs)))) other

  place_fits : (s : Bool) (rest : List ℕ) → length (cond s rest (drop 1 rest)) ≤ length rest
  place_fits true rest = omega arith
  place_fits false [] = omega arith
  place_fits false (c ∷ cs) = omega arith

  module _ (s : Bool) (rest place : List ℕ) (other : is_after_instance rest ≡ false) (is : place ≡ cond s rest (drop 1 rest)) where
    left_read : (r : Result (Node × List ℕ) NodeFault) → place_read style text place ≡ r
        → left s rest ≡ node_then text place (nodes_of_rest style text (length rest) false) r
    left_read r read = left_place s rest other
        ∙ (λ i. node_then text (sym is i) (nodes_of_rest style text (length rest) false) (place_read style text (sym is i)))
        ∙ ap (node_then text place (nodes_of_rest style text (length rest) false)) read

    pub shorter : StyledEnds → (node : Node) (after : List ℕ) → place_read style text place ≡ Ok (node, after) → length after < length rest
    shorter ends node after read =
        omega (arith, after_shorter ends place node after read, ap length is, place_fits s rest)

    pub left_node : StyledEnds → (node : Node) (after : List ℕ) → place_read style text place ≡ Ok (node, after)
        → left s rest ≡ more_nodes node (left false after)
    left_node ends node after read =
        left_read (Ok (node, after)) read
        ∙ ap (more_nodes node) (enough ends (length rest) (suc (length after)) false after (shorter ends node after read) (omega arith))

    pub left_fault : (found : NodeFault) → place_read style text place ≡ Err found → left s rest ≡ Err (fault_from text place found)
    left_fault found refused = left_read (Err found) refused

-- whether what is left of a text follows a comma
pub follows_is : (text : List ℕ) (k c : ℕ) (cs : List ℕ) → drop k text ≡ c ∷ cs → follows_comma text cs ≡ (c == 44)
follows_is text k c cs is =
    let less : length cs < length text = omega (arith, ap length is, length-drop k text) in
    let at : length text - length cs - 1 ≡ k = omega (arith, ap length is, length-drop k text) in
    let byte : slice_index text (length text - length cs - 1) ≡ c =
    ap (λ (n : ℕ). get_or text n 0) (at ∙ omega arith) ∙ sym (get_or-drop k text 0 0) ∙ ap (λ (l : List ℕ). get_or l 0 0) is in
    (λ i. lt-ltb (length cs) (length text) less i && (byte i == 44))

pub follows_first : (text : List ℕ) (k : ℕ) (cs : List ℕ) → drop k text ≡ 44 ∷ cs → true ≡ follows_comma text cs
follows_first text k cs is = sym (follows_is text k 44 cs is)

-- what a text is read as: up to the mark that closes it, from the place of the first node on
module _ (style : TextStyle) (text : List ℕ) where
  abbrev whole : List ℕ
  whole = before_closing style text

  abbrev first : List ℕ
  first = first_place style text

  -- what the relation says is what the function says
  start : {nodes : List Node} {s : Bool} {rest : List ℕ} → StyledStarts → StyledEnds → ReadsTo style text nodes s rest
      → onto nodes (left style whole s rest) ≡ path_read style text
  unfolding path_read
  start starts ends Begins = onto_none (left style whole true first)
  start starts ends (Comma nodes s rest on) = sym (onto_more nodes end_instance (left style whole true rest)) ∙ start starts ends on
  start starts ends (OneMore nodes s node place rest on read) =
      sym (onto_more nodes node (left style whole false rest))
      ∙ ap (onto nodes) (sym (left_node style whole s (separator s ++ place) place
      (not_ended s place (λ e. no_instance place (starts style (follows_comma whole place) place node rest read))) (at_place s place) ends node rest read))
      ∙ start starts ends on

  read_is : StyledStarts → StyledEnds → (nodes : List Node) → Reads style text nodes → path_read style text ≡ Ok nodes
  read_is starts ends nodes (s, on) = sym (start starts ends on) ∙ ap (λ (l : List Node). Ok l) (append-nil nodes)

  stop_is : StyledStarts → StyledEnds → (fault : TextFault) → StopsBeingRead style text fault → path_read style text ≡ Err fault
  stop_is starts ends fault (nodes, s, rest, stop) =
      sym (start starts ends stop.reads)
      ∙ ap (onto nodes) (left_fault style whole s (separator s ++ rest) rest (not_ended s rest stop.not_empty) (at_place s rest) stop.found stop.refused
      ∙ ap failing (sym stop.is))

  -- and back
  pub told_on : StyledTakes → {nodes : List Node} {s : Bool} {rest : List ℕ} → ReadsTo style text nodes s rest → AreTold nodes
  told_on takes Begins = All-nil IsToldOrEnd
  told_on takes (Comma nodes s rest on) = All-push IsToldOrEnd nodes end_instance (told_on takes on) (inr refl)
  told_on takes (OneMore nodes s node place rest on read) =
      All-push IsToldOrEnd nodes node (told_on takes on) (inl (takes style (follows_comma whole place) place node rest read))

  reads_end : StyledEnds → {nodes : List Node} {s : Bool} {rest : List ℕ} → ReadsTo style text nodes s rest
      → s ≡ false → is_after_node rest ≡ true
  reads_end ends Begins e = absurd (true≢false e)
  reads_end ends (Comma nodes s rest on) e = absurd (true≢false e)
  reads_end ends (OneMore nodes s node place rest on read) e = (ends style (follows_comma whole place) place node rest read).1

  reads_within : StyledEnds → {nodes : List Node} {s : Bool} {rest : List ℕ} → ReadsTo style text nodes s rest
      → length rest ≤ length whole
  reads_within ends Begins = ends_within whole first (place_ends style text)
  reads_within ends (Comma nodes s rest on) = let l = reads_within ends on in omega (arith, l)
  reads_within ends (OneMore nodes s node place rest on read) =
      omega (arith, reads_within ends on, length-append (separator s) place, after_shorter style whole ends place node rest read)

  abbrev Means : List Node → Nodes → Type 0
  Means nodes (Ok more) = Reads style text (nodes ++ more)
  Means nodes (Err fault) = StopsBeingRead style text fault

  more_means : (nodes : List Node) (node : Node) (r : Nodes) → Means (nodes ++ node ∷ []) r → Means nodes (more_nodes node r)
  more_means nodes node (Ok more) h = subst (λ (l : List Node). Reads style text l) (append_assoc nodes (node ∷ []) more) h
  more_means nodes node (Err fault) h = h

  means : StyledEnds → (m : ℕ) (nodes : List Node) (s : Bool) (rest : List ℕ) → length rest < m → ReadsTo style text nodes s rest
      → Means nodes (nodes_of_rest style whole m s rest)
  means ends zero nodes s rest l on = absurd (omega (arith, l))
  means ends (suc m) nodes s [] l on =
      (s, subst (λ (x : List Node). ReadsTo style text x s []) (sym (append-nil nodes)) on)
  means ends (suc m) nodes s (c ∷ cs) l on = by (c == 44) refl (means ends m)
    where
      Next : Type 0
      Next = (done : List Node) (t : Bool) (r : List ℕ) → length r < m → ReadsTo style text done t r → Means done (nodes_of_rest style whole m t r)

      place : List ℕ
      place = cond s (c ∷ cs) cs

      splits : (c == 44) ≡ false → c ∷ cs ≡ separator s ++ place
      splits p = place_is s (c ∷ cs) p (reads_end ends on)

      read_on : (c == 44) ≡ false → (r : Result (Node × List ℕ) NodeFault) → place_read style whole place ≡ r → Next
          → Means nodes (node_then whole place (nodes_of_rest style whole m false) r)
      read_on p (Ok read) is h = more_means nodes read.0 (nodes_of_rest style whole m false read.1)
          (h (nodes ++ read.0 ∷ []) false read.1
          (omega (arith, l, after_shorter style whole ends place read.0 read.1 is, ap length (splits p), length-append (separator s) place))
          (OneMore nodes s read.0 place read.1 (subst (λ (x : List ℕ). ReadsTo style text nodes s x) (splits p) on) is))
      read_on p (Err found) is h = (
        nodes,
        s,
        place,
        record {
          reads = subst (λ (x : List ℕ). ReadsTo style text nodes s x) (splits p) on;
          not_empty = λ e. ap (λ (t : Bool). is_after_instance (cond t (c ∷ cs) cs)) e ∙ p;
          found = found;
          refused = is;
          is = refl;
        },
      )

      by : (b : Bool) → (c == 44) ≡ b → Next
          → Means nodes (cond b (more_nodes end_instance (nodes_of_rest style whole m true cs)) (node_then whole place (nodes_of_rest style whole m false) (place_read style whole place)))
      by true p h = more_means nodes end_instance (nodes_of_rest style whole m true cs)
          (h (nodes ++ end_instance ∷ []) true cs (omega (arith, l))
          (Comma nodes s cs (subst (λ (x : ℕ). ReadsTo style text nodes s (x ∷ cs)) (eqb-true c 44 p) on)))
      by false p h = read_on p (place_read style whole place) refl h

  all_means : StyledEnds → Means [] (path_read style text)
  unfolding path_read
  all_means ends = means ends (suc (length first)) [] true first (omega arith) Begins

  pub reads_mean : StyledStarts → StyledEnds → (nodes : List Node) → (path_read style text ≡ Ok nodes) ↔ Reads style text nodes
  reads_mean starts ends nodes = (λ is. subst (λ (r : Nodes). Means [] r) is (all_means ends), read_is starts ends nodes)

  pub stops_mean : StyledStarts → StyledEnds → (fault : TextFault) → (path_read style text ≡ Err fault) ↔ StopsBeingRead style text fault
  stops_mean starts ends fault = (λ is. subst (λ (r : Nodes). Means [] r) is (all_means ends), stop_is starts ends fault)

  -- the laws
  pub read_told : StyledTakes → StyledStarts → StyledEnds → (nodes : List Node) → path_read style text ≡ Ok nodes → AreTold nodes
  read_told takes starts ends nodes is = told_on takes ((reads_mean starts ends nodes).0 is).1

  -- a wrong byte lies in the text
  pub faults_within : StyledStarts → StyledEnds → StyledFaultWithin → (fault : TextFault) → path_read style text ≡ Err fault
      → (fault.node ≤ fault.byte) × (fault.byte ≤ length text)
  faults_within starts ends within fault is =
      let (nodes, s, rest, stop) = (stops_mean starts ends fault).0 is in
      let long : length (separator s ++ rest) ≤ length whole = reads_within ends stop.reads in
      let size : length rest ≤ length whole = omega (arith, long, length-append (separator s) rest) in
      let here = IfErr-at_err (λ (f : NodeFault). f.byte ≤ length rest) stop.refused (within style (follows_comma whole rest) rest) in
      let node = ap (λ (f : TextFault). f.node) stop.is in
      let byte = ap (λ (f : TextFault). f.byte) stop.is in
      (omega (arith, node, byte), omega (arith, size, here, node, byte, closing_within style text))

  -- how far a text was read: the nodes so far, and what is left
  pub record Going (nodes : List Node) (s : Bool) (rest : List ℕ) : Type 0 where
    pub all : onto nodes (left style whole s rest) ≡ path_read style text
    pub ends : Ends whole rest

  pub going_first : Going [] true first
  unfolding path_read
  going_first = record { all = onto_none (left style whole true first); ends = place_ends style text }

  pub going_comma : (nodes : List Node) (s : Bool) (rest after : List ℕ) → Going nodes s rest → rest ≡ 44 ∷ after
      → Going (nodes ++ end_instance ∷ []) true after × (length after < length rest)
  going_comma nodes s rest after on is = (
    record {
      all = sym (onto_more nodes end_instance (left style whole true after)) ∙ ap (onto nodes) (sym (left_comma style whole s rest after is)) ∙ on.all;
      ends = ends_more whole rest after 1 on.ends (ap (drop 1) (sym is));
    },
    omega (arith, ap length is),
  )

  module _ (nodes : List Node) (s : Bool) (rest place : List ℕ) (on : Going nodes s rest) (other : is_after_instance rest ≡ false)
      (is : place ≡ cond s rest (drop 1 rest)) where
    place_left : (t : Bool) → place ≡ cond t rest (drop 1 rest) → Ends whole place
    place_left true e = ends_more whole rest place 0 on.ends e
    place_left false e = ends_more whole rest place 1 on.ends e

    pub place_inside : length place ≤ length whole
    place_inside = ends_within whole place (place_left s is)

    -- where a node begins, a comma precedes it only at the start of an instance
    pub place_follows : 0 < length rest → (comma : Bool) → (s ≡ true → comma ≡ follows_comma whole rest) → (s ≡ false → comma ≡ false)
        → comma ≡ follows_comma whole place
    place_follows some comma early later = by s refl rest refl other is
      where
        by : (t : Bool) → s ≡ t → (r : List ℕ) → rest ≡ r → is_after_instance r ≡ false → place ≡ cond t r (drop 1 r) → comma ≡ follows_comma whole place
        by true p r same apart e = early p ∙ ap (follows_comma whole) (same ∙ sym e)
        by false p [] same apart e = absurd (omega (arith, some, ap length same))
        by false p (c ∷ cs) same apart e =
            later p ∙ sym (ap (follows_comma whole) e ∙ follows_is whole on.ends.0 c cs (sym on.ends.1 ∙ same) ∙ apart)

    pub going_node : StyledEnds → (node : Node) (after : List ℕ) → place_read style whole place ≡ Ok (node, after)
        → Going (nodes ++ node ∷ []) false after × (length after < length rest)
    going_node ends node after read =
        let less = shorter style whole s rest place other is ends node after read in (
          record {
            all = sym (onto_more nodes node (left style whole false after)) ∙ ap (onto nodes) (sym (left_node style whole s rest place other is ends node after read)) ∙ on.all;
            ends = let rest_of = (ends style (follows_comma whole place) place node after read).0 in
                let before = rest_of.0 ∷ rest_of.1 in
                ends_more whole place after (length before) (place_left s is) (sym (ap (drop (length before)) rest_of.2 ∙ drop_at before after (length before) refl));
          },
          less,
        )

    pub going_stops : (found : NodeFault) → place_read style whole place ≡ Err found → (fault : TextFault) → fault ≡ fault_from whole place found
        → path_read style text ≡ Err fault
    going_stops found refused fault same =
        sym on.all ∙ ap (onto nodes) (left_fault style whole s rest place other is found refused) ∙ ap (λ (f : TextFault). Err f) (sym same)

  pub all_read : (nodes : List Node) (s : Bool) (rest : List ℕ) → Going nodes s rest → length rest ≡ 0 → path_read style text ≡ Ok nodes
  all_read nodes s [] on none = sym on.all ∙ ap (λ (l : List Node). Ok l) (append-nil nodes)
  all_read nodes s (c ∷ cs) on none = absurd (omega (arith, none))

-- the nodes whose printed texts a style reads
abbrev pub IsTaken : TextStyle → Node → Type 0
IsTaken style node = takes_printed style (printed node) ≡ true

-- the style of printed texts reads all of them
pub all_taken : (nodes : List Node) → All (IsTaken Printed) nodes
all_taken [] = All-nil (IsTaken Printed)
all_taken (n ∷ ns) = All-cons (IsTaken Printed) n ns refl (all_taken ns)

-- one more node before those that were read
more_onto : (node : Node) (nodes : List Node) (r : Nodes) → more_nodes node (onto nodes r) ≡ onto (node ∷ nodes) r
more_onto node nodes (Ok more) = refl
more_onto node nodes (Err fault) = refl

-- what is printed is read
module _ (fits : NodeFits) (starts : NodeStarts) (again : NodeAgain) (styled : StyledAgain) (ends : StyledEnds) where
  pub printed_onto : (style : TextStyle) (text : List ℕ) (s : Bool) (nodes : List Node) (tail : Bool → List ℕ) → is_after_node (tail false) ≡ true
      → All (IsTaken style) nodes → AreTold nodes
      → left style text s (text_onto s nodes tail) ≡ onto nodes (left style text (starts_after s nodes) (tail (starts_after s nodes)))
  printed_onto style text s [] tail after taken told = sym (onto_none (left style text s (tail s)))
  printed_onto style text s (n ∷ ns) tail after taken told =
      one (All-head IsToldOrEnd n ns told) (printed_onto style text true ns tail after (All-tail (IsTaken style) n ns taken) (All-tail IsToldOrEnd n ns told))
      (printed_onto style text false ns tail after (All-tail (IsTaken style) n ns taken) (All-tail IsToldOrEnd n ns told))
    where
      then_left : Bool → Nodes
      then_left t = left style text (starts_after t ns) (tail (starts_after t ns))

      one : IsToldOrEnd n → left style text true (text_onto true ns tail) ≡ onto ns (then_left true)
          → left style text false (text_onto false ns tail) ≡ onto ns (then_left false)
          → left style text s (text_onto s (n ∷ ns) tail) ≡ onto (n ∷ ns) (then_left (is_end_instance n))
      one (inr same) r q = left_comma style text s (text_onto s (n ∷ ns) tail) (text_onto true ns tail) (end_first s n ns tail same)
          ∙ ap (more_nodes end_instance) r ∙ more_onto end_instance ns (then_left true)
          ∙ (λ i. onto (sym same i ∷ ns) (then_left (is_end_instance (sym same i))))
      one (inl told) r q =
          let rest = text_onto false ns tail in
          let place = printed n ++ rest in
          let takes = takes_more style (printed n) rest (All-head (IsTaken style) n ns taken) (onto_after ns tail after) in
          let read = styled style (follows_comma text place) place takes n rest (again n told rest (onto_after ns tail after)) (onto_after ns tail after) in
          ap (left style text s) (told_first fits s n ns tail told)
          ∙ left_node style text s (separator s ++ place) place (not_ended s place (λ e. no_instance place (starts n told rest))) (at_place s place) ends n rest read
          ∙ ap (more_nodes n) q ∙ more_onto n ns (then_left false)
          ∙ ap (λ (t : Bool). onto (n ∷ ns) (then_left t)) (sym (no_end fits n told))

  printed_clear : (nodes : List Node) → AreTold nodes → is_clear (rest_text true nodes) ≡ true
  printed_clear [] told = refl
  printed_clear (n ∷ ns) told = one (All-head IsToldOrEnd n ns told)
    where
      one : IsToldOrEnd n → is_clear (rest_text true (n ∷ ns)) ≡ true
      one (inr same) = ap is_clear (end_first true n ns (λ _. []) same)
      one (inl told) =
          let after = rest_text false ns in
          ap is_clear (told_first fits true n ns (λ _. []) told)
          ∙ node_clear (printed n ++ after) (n, after) (again n told after (onto_after ns (λ _. []) refl))

  pub printed_is_read : PrintedIsRead
  unfolding path_read
  printed_is_read style text nodes taken told is =
      let same : rest_text true nodes ≡ text = sym (path_text_is nodes) ∙ is in
      let all = all_is_read style text (subst (λ (x : List ℕ). is_clear x ≡ true) same (printed_clear nodes told)) in
      (λ i. left style (all.0 i) true (all.1 i))
      ∙ subst (λ (x : List ℕ). left style text true x ≡ Ok nodes) same
      (printed_onto style text true nodes (λ _. []) refl taken told ∙ ap (λ (l : List Node). Ok l) (append-nil nodes))

  -- what stops being printed is not read there
  pub stop_is_read : NodeTakes → StopIsRead
  unfolding path_read
  stop_is_read takes text place (nodes, rest, stop) =
      let s = starts_after true nodes in
      let tail : Bool → List ℕ = λ t. separator t ++ rest in
      let whole : text ≡ text_onto true nodes tail = stop.begins ∙ ap (λ (x : List ℕ). x ++ rest) (text_before_is nodes)
      ∙ append_assoc (rest_text true nodes) (separator s) rest ∙ onto_is true nodes tail in
      let at : length text - length rest ≡ place = omega (arith, ap length stop.begins, length-append (text_before nodes) rest, stop.offset) in
      ap (left Printed text true) whole
      ∙ printed_onto Printed text true nodes tail refl (all_taken nodes) stop.told
      ∙ ap (onto nodes) (left_fault Printed text s (separator s ++ rest) rest
      (not_ended s rest (λ e. stop.not_empty (starts_after_is None nodes ∙ e))) (at_place s rest) (fault_at_byte 0 AsPrinted) (none_read takes text rest stop.none))
      ∙ (λ i. failing (record { node = at i; byte = (add-zero (length text - length rest) ∙ at) i; expected = AsPrinted }))
