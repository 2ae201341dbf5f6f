-- A path is read from its text: what is read of a text is printed so, up to where it stops.
use Rattle.std.proofs.Common.{◌≡◌, ◌≢◌, ℕ, ◌+◌, ◌-◌, Bool, true, false, cond, eqb, ltb, List, [], ◌∷◌, ◌++◌, codes, length, drop, ◌⊎◌, refl, ap, sym, ◌∙◌, append_assoc, arith, true≢false}
use Rattle.std.specs.Prelude.{Option, Some, None, ◌==◌, ◌&&◌, ◌||◌, not}
use Rattle.std.specs.List.{flat_map, join_by, last_or, onto_first}
use Rattle.std.proofs.lemmas.List.{append-nil, length-append}
use Rattle.std.proofs.lemmas.Bool.Decides.{nat_tests}
use borrow.Author.Tests.{eqb-true}
use Rattle.uefi_device_nodes.specs.Nodes.{Node, is_end_instance}
use Rattle.uefi_device_nodes.specs.NodeTexts.{node_text}
use Rattle.uefi_device_path.specs.Building.{build_refusal}
use Rattle.uefi_device_path.specs.Instances.{instances}
use Rattle.uefi_device_path.specs.PathTexts.{instance_text, nodes_text}
use Rattle.uefi_device_path.specs.PathReading.{AreTold, BeginsWithNode, NoneBegins, StopsAt, end_instance, is_after_instance, starts_instance, text_before}
use Rattle.uefi_device_path.specs.declared.errors.BuildError.TheVariants.{EndNode, NodeTooLong}
use Rattle.uefi_node_reader.specs.Laws.{NodeFits, NodeTakes}
use Rattle.uefi_node_reader.specs.NamedFiles.{is_after_node, IsTold, node_read}

-- the text of a node, in the form that is to be read back
abbrev pub printed : Node → List ℕ
printed node = node_text false false node

-- what stands before a node: a slash, but at the start of an instance nothing
abbrev pub separator : Bool → List ℕ
separator at_start = cond at_start [] (codes "/")

-- the text of nodes from the start of an instance on, or after a node, and what stands after them
abbrev pub text_onto : Bool → List Node → (Bool → List ℕ) → List ℕ
text_onto at_start [] tail = tail at_start
text_onto at_start (node ∷ nodes) tail = cond (is_end_instance node) (codes "," ++ text_onto true nodes tail)
    (separator at_start ++ (printed node ++ text_onto false nodes tail))

-- the same without anything after them
abbrev pub rest_text : Bool → List Node → List ℕ
rest_text at_start nodes = text_onto at_start nodes (λ _. [])

-- the texts of nodes, each after a slash, and of instances, each after a comma
abbrev slashed : List Node → List ℕ
slashed nodes = flat_map (λ node. codes "/" ++ printed node) nodes

abbrev comma_parts : List (List Node) → List ℕ
comma_parts parts = flat_map (λ part. codes "," ++ instance_text false false part) parts

-- the text of instances, and the same where the first of them goes on
abbrev parts_text : List (List Node) → List ℕ
parts_text parts = join_by (instance_text false false) (codes ",") parts

abbrev going_on : List (List Node) → List ℕ
going_on [] = []
going_on (part ∷ parts) = slashed part ++ comma_parts parts

-- a path has an instance
instances_some : (nodes : List Node) → instances nodes ≢ []
instances_some [] e = cc
instances_some (n ∷ ns) e = by (is_end_instance n) (instances ns) e
  where
    by : (t : Bool) (parts : List (List Node)) → cond t ([] ∷ parts) (onto_first n parts) ≡ [] → ⊥
    by true parts e = cc
    by false [] e = cc
    by false (p ∷ ps) e = cc

pub rest_is : (nodes : List Node) → (rest_text true nodes ≡ parts_text (instances nodes))
    × (rest_text false nodes ≡ going_on (instances nodes))
unfolding instance_text
rest_is [] = (refl, refl)
rest_is (n ∷ ns) = by (is_end_instance n) (instances ns) (instances_some ns) (rest_is ns)
  where
    text : List ℕ
    text = printed n

    comma : List ℕ
    comma = codes "," ++ rest_text true ns

    by : (t : Bool) (parts : List (List Node)) → parts ≢ []
        → (rest_text true ns ≡ parts_text parts) × (rest_text false ns ≡ going_on parts)
        → (cond t comma (text ++ rest_text false ns) ≡ parts_text (cond t ([] ∷ parts) (onto_first n parts)))
        × (cond t comma (codes "/" ++ (text ++ rest_text false ns))
        ≡ going_on (cond t ([] ∷ parts) (onto_first n parts)))
    by true [] some h = absurd (some refl)
    by true (p ∷ ps) some h =
        let e = ap (λ (x : List ℕ). codes "," ++ x) h.0 in (e, e)
    by false [] some h =
        let e = ap (λ (x : List ℕ). text ++ x) h.1 ∙ sym (append-nil (text ++ [])) in
        (e, ap (λ (x : List ℕ). codes "/" ++ x) e)
    by false (p ∷ ps) some h =
        let e = ap (λ (x : List ℕ). text ++ x) h.1 ∙ sym (append_assoc text (slashed p) (comma_parts ps)) in
        (e, ap (λ (x : List ℕ). codes "/" ++ x) e)

pub path_text_is : (nodes : List Node) → nodes_text false false nodes ≡ rest_text true nodes
unfolding nodes_text
path_text_is nodes = sym (rest_is nodes).0

-- after a node stands what may follow one
pub onto_after : (nodes : List Node) (tail : Bool → List ℕ) → is_after_node (tail false) ≡ true
    → is_after_node (text_onto false nodes tail) ≡ true
onto_after [] tail e = e
onto_after (n ∷ ns) tail e = by (is_end_instance n)
  where
    by : (t : Bool) → is_after_node (cond t (44 ∷ text_onto true ns tail) (codes "/" ++ (printed n ++ text_onto false ns tail))) ≡ true
    by true = refl
    by false = refl

-- a node that is told, or the end of an instance
abbrev pub IsToldOrEnd : Node → Type 0
IsToldOrEnd node = IsTold node ⊎ (node ≡ end_instance)

pub no_end : NodeFits → (node : Node) → IsTold node → is_end_instance node ≡ false
no_end fits node told = ap (λ (t : Bool). t && (node.sub_type == 0x01)) (fits node told).0

-- a text that goes on with a node that is told, or with a comma
pub told_first : NodeFits → (s : Bool) (node : Node) (nodes : List Node) (tail : Bool → List ℕ) → IsTold node
    → text_onto s (node ∷ nodes) tail ≡ separator s ++ (printed node ++ text_onto false nodes tail)
told_first fits s node nodes tail told = ap (λ (t : Bool). cond t (44 ∷ text_onto true nodes tail)
    (separator s ++ (printed node ++ text_onto false nodes tail))) (no_end fits node told)

pub end_first : (s : Bool) (node : Node) (nodes : List Node) (tail : Bool → List ℕ) → node ≡ end_instance
    → text_onto s (node ∷ nodes) tail ≡ 44 ∷ text_onto true nodes tail
end_first s node nodes tail e = ap (λ (x : Node). text_onto s (x ∷ nodes) tail) e

-- whether an instance begins after nodes
abbrev pub starts_after : Bool → List Node → Bool
starts_after at_start [] = at_start
starts_after at_start (n ∷ ns) = starts_after (is_end_instance n) ns

pub starts_after_is : (o : Option Node) (nodes : List Node)
    → starts_instance (last_or o nodes) ≡ starts_after (starts_instance o) nodes
starts_after_is o [] = refl
starts_after_is o (n ∷ ns) = starts_after_is (Some n) ns

pub text_before_is : (nodes : List Node)
    → text_before nodes ≡ rest_text true nodes ++ separator (starts_after true nodes)
text_before_is nodes =
    ap (λ (x : List ℕ). x ++ separator (starts_instance (last_or None nodes))) (path_text_is nodes)
    ∙ ap (λ (t : Bool). rest_text true nodes ++ separator t) (starts_after_is None nodes)

-- what stands after nodes is after their text
pub onto_is : (s : Bool) (nodes : List Node) (tail : Bool → List ℕ)
    → rest_text s nodes ++ tail (starts_after s nodes) ≡ text_onto s nodes tail
onto_is s [] tail = refl
onto_is s (n ∷ ns) tail = by (is_end_instance n) (λ t. onto_is t ns tail)
  where
    old : Bool → List ℕ
    old t = rest_text t ns

    more : Bool → List ℕ
    more t = tail (starts_after t ns)

    all : Bool → List ℕ
    all t = text_onto t ns tail

    by : (t : Bool) → ((u : Bool) → old u ++ more u ≡ all u)
        → cond t (codes "," ++ old true) (separator s ++ (printed n ++ old false)) ++ more t
        ≡ cond t (codes "," ++ all true) (separator s ++ (printed n ++ all false))
    by true h = ap (λ (x : List ℕ). 44 ∷ x) (h true)
    by false h =
        append_assoc (separator s) (printed n ++ old false) (more false)
        ∙ ap (λ (x : List ℕ). separator s ++ x) (append_assoc (printed n) (old false) (more false))
        ∙ ap (λ (x : List ℕ). separator s ++ (printed n ++ x)) (h false)

-- one more node
onto-push : (s : Bool) (nodes : List Node) (node : Node)
    → text_onto s nodes (λ t. rest_text t (node ∷ [])) ≡ rest_text s (nodes ++ node ∷ [])
onto-push s [] node = refl
onto-push s (n ∷ ns) node = λ i. cond (is_end_instance n) (44 ∷ onto-push true ns node i)
    (separator s ++ (printed n ++ onto-push false ns node i))

rest_text-push : (s : Bool) (nodes : List Node) (node : Node)
    → rest_text s (nodes ++ node ∷ []) ≡ rest_text s nodes ++ rest_text (starts_after s nodes) (node ∷ [])
rest_text-push s nodes node = sym (onto_is s nodes (λ t. rest_text t (node ∷ [])) ∙ onto-push s nodes node)

starts_after-push : (s : Bool) (nodes : List Node) (node : Node)
    → starts_after s (nodes ++ node ∷ []) ≡ is_end_instance node
starts_after-push s [] node = refl
starts_after-push s (n ∷ ns) node = starts_after-push (is_end_instance n) ns node

-- how far a text was read: the nodes of its beginning, and what is left
pub record Going (text : List ℕ) (nodes : List Node) (at_start : Bool) (rest : List ℕ) : Type 0 where
  pub splits : text ≡ rest_text true nodes ++ rest
  pub start : at_start ≡ starts_after true nodes

-- over a comma
pub over_comma : (text : List ℕ) (nodes : List Node) (at_start : Bool) (after : List ℕ)
    → Going text nodes at_start (44 ∷ after) → Going text (nodes ++ end_instance ∷ []) true after
over_comma text nodes at_start after on = record {
  splits = on.splits ∙ sym (append_assoc (rest_text true nodes) (44 ∷ []) after)
      ∙ ap (λ (x : List ℕ). x ++ after) (sym (rest_text-push true nodes end_instance));
  start = sym (starts_after-push true nodes end_instance);
}

-- where a node has to begin
pub place_is : (at_start : Bool) (rest : List ℕ) → is_after_instance rest ≡ false
    → (at_start ≡ false → is_after_node rest ≡ true)
    → rest ≡ separator at_start ++ cond at_start rest (drop 1 rest)
place_is true rest other ends = refl
place_is false [] other ends = absurd (true≢false other)
place_is false (c ∷ cs) other ends = by (eqb c 47) (eqb c 44) refl other (ends refl)
  where
    by : (t u : Bool) → eqb c 47 ≡ t → u ≡ false → t || u ≡ true → c ∷ cs ≡ 47 ∷ cs
    by true u p q e = ap (λ (x : ℕ). x ∷ cs) (eqb-true c 47 p)
    by false true p q e = absurd (true≢false q)
    by false false p q e = absurd (true≢false (sym e))

-- over a node
pub over_node : NodeFits → (text : List ℕ) (nodes : List Node) (at_start : Bool) (place after : List ℕ) (node : Node)
    → Going text nodes at_start (separator at_start ++ place) → BeginsWithNode place node after → Going text (nodes ++ node ∷ []) false after
over_node fits text nodes at_start place after node on begins = record {
  splits = on.splits ∙ ap (λ (x : List ℕ). before ++ x) (ap (λ (x : List ℕ). gap ++ x) begins.splits ∙ sym (append_assoc gap own after))
      ∙ sym (append_assoc before (gap ++ own) after) ∙ ap (λ (x : List ℕ). x ++ after) (sym all);
  start = sym (starts_after-push true nodes node ∙ no_end fits node begins.told);
}
  where
    before : List ℕ
    before = rest_text true nodes

    gap : List ℕ
    gap = separator at_start

    own : List ℕ
    own = printed node

    one : rest_text at_start (node ∷ []) ≡ gap ++ own
    one = ap (λ (t : Bool). cond t (codes ",") (gap ++ (own ++ []))) (no_end fits node begins.told)
        ∙ ap (λ (x : List ℕ). gap ++ x) (append-nil own)

    all : rest_text true (nodes ++ node ∷ []) ≡ before ++ (gap ++ own)
    all = rest_text-push true nodes node
        ∙ ap (λ (t : Bool). before ++ rest_text t (node ∷ [])) (sym on.start)
        ∙ ap (λ (x : List ℕ). before ++ x) one

-- at the end, and where no node begins
pub done : (text : List ℕ) (nodes : List Node) (at_start : Bool) → Going text nodes at_start [] → nodes_text false false nodes ≡ text
done text nodes at_start on = path_text_is nodes ∙ sym (append-nil (rest_text true nodes)) ∙ sym on.splits

pub stopped : (text : List ℕ) (nodes : List Node) (at_start : Bool) (rest : List ℕ) → AreTold nodes
    → Going text nodes at_start (separator at_start ++ rest) → (at_start ≡ true → is_after_instance rest ≡ false) → NoneBegins rest
    → StopsAt text (length text - length rest)
stopped text nodes at_start rest told on other none = (
  nodes,
  rest,
  record {
    told = told;
    begins = begins;
    none = none;
    not_empty = λ e. other (on.start ∙ sym (starts_after_is None nodes) ∙ e);
    offset = omega (arith, ap length begins, length-append (text_before nodes) rest);
  },
)
  where
    begins : text ≡ text_before nodes ++ rest
    begins = on.splits ∙ sym (append_assoc (rest_text true nodes) (separator at_start) rest)
        ∙ ap (λ (t : Bool). rest_text true nodes ++ separator t ++ rest) on.start
        ∙ ap (λ (x : List ℕ). x ++ rest) (sym (text_before_is nodes))

-- a node that is read before what may stand after one
pub node_begins : NodeTakes → (text : List ℕ) (node : Node) (after : List ℕ)
    → node_read text ≡ Some (node, after) → is_after_node after ≡ true → BeginsWithNode text node after
node_begins takes text node after read ends =
    let took = takes text node after read in
    record { told = took.0; splits = took.1; ends = ends }

-- a path takes a node that is told
pub accepted : NodeFits → (node : Node) → IsTold node → build_refusal node ≡ None
accepted fits node told =
    let f = fits node told in
    let small : ltb 0xffff (length node.content + 4) ≡ false = grind (arith, nat_tests) in
    (λ i. cond (f.0 i && not (is_end_instance node && (length node.content == 0))) (Some EndNode)
    (cond (small i) (Some NodeTooLong) None))
