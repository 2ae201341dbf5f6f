-- What is read in a style is told, and what stands after it is the rest of its text.
use Rattle.std.proofs.Common.{ap, ◌∙◌, ◌≡◌, ◌-◌, ◌≤◌, ◌==◌, ◌&&◌, ◌++◌, not, ℕ, Bool, true, false, cond, ◌⊎◌, List, [], ◌∷◌, length, refl, subst, inl, inr, arith}
use Rattle.uefi_node_reader.specs.FieldReading.{read_if}
use Rattle.std.specs.Prelude.{Option, Some, None, Ok}
use Rattle.std.specs.List.{list_all}
use Rattle.std.specs.Option.{ok_or, option_map, option_or}
use Rattle.std.proofs.lemmas.Bool.{and_parts, not-true}
use Rattle.std.proofs.lemmas.Grind.{common_steps}
use Rattle.uefi_device_nodes.specs.Rows.{Form}
use Rattle.uefi_device_nodes.specs.Nodes.{Node, node_with}
use Rattle.uefi_node_reader.specs.LenientCalls.{cut_call, place_at, tidied, told_in}
use Rattle.uefi_node_reader.specs.LenientNodes.{IsRestOf, begins_call, ended, fault_at_byte}
use Rattle.uefi_node_reader.specs.Libefivar.{forms_exact, libefivar_read, own_call, own_fault, own_or_lenient, own_read, own_stop}
use Rattle.uefi_node_reader.specs.NamedFiles.{IsTold, ends_name, is_after_node, node_read, past_spaces}
use Rattle.uefi_node_reader.specs.Styles.{PrintedExactly, StyledAgain, StyledEnds, StyledFaultWithin, StyledStarts, StyledTakes, styled_read, takes_printed}
use Rattle.uefi_node_reader.specs.TableReading.{form_read, is_sound}
use Rattle.uefi_node_reader.specs.declared.errors.faults.Expected.TheVariants.{AsPrinted}
use Rattle.uefi_node_reader.specs.declared.errors.faults.NodeFault.{NodeFault}
use Rattle.uefi_node_reader.specs.declared.errors.faults.Stop.{Stop}
use Rattle.uefi_node_reader.specs.declared.styles.TextStyle.{TextStyle}
use Rattle.uefi_node_reader.specs.declared.styles.TextStyle.TheVariants.{Printed, Lenient, Libefivar}
use Rattle.uefi_node_reader.proofs.FaultPlaces.{Within, end_within, fault_within, or_within, place_within}
use Rattle.uefi_node_reader.proofs.LenientLaws.{WellRead, call_starts, cut_end, ends, ends_at, lenient_again, lenient_well, spaced_rest, strict_well, with_rest}
use Rattle.uefi_node_reader.proofs.ToldForms.{told_as}
use Rattle.uefi_node_reader.proofs.Spaces.{past_spaces-after}
use Rattle.uefi_node_reader.proofs.Literals.{bind_some, ok_some}
use Rattle.uefi_device_nodes.specs.Table.{libefivar_forms}
use Rattle.uefi_node_reader.proofs.Groups.{group_sound}
use Rattle.uefi_node_reader.proofs.TableLaws.{form_takes}
use Rattle.uefi_node_reader.proofs.ToldNodes.{tells_told}

exact_told : (form : Form) → is_sound form ≡ true → (text : List ℕ) (node : Node) → told_in form (form_read form text) ≡ Some node → IsTold node
exact_told form sound text node e =
    let told = told_as form (form_read form text) node e in
    let taken = form_takes form sound text told.0.0 told.0.1 told.1 in
    subst IsTold told.3 (inl (tells_told form (node_with form.kind form.sub_kind told.0.0)
    (record { bytes = taken.bytes; tail = taken.whole.1 }) told.2))

-- one of two that were read
one_node : (a b : Option Node) (x : Node) → option_or a b ≡ Some x → (a ≡ Some x) ⊎ (b ≡ Some x)
one_node None b x e = inr e
one_node (Some y) b x e = inl e

all_told : (all : List Form) → list_all is_sound all ≡ true → (text : List ℕ) (node : Node)
    → forms_exact all text ≡ Some node → IsTold node
all_told [] sound text node e = cc
all_told (form ∷ others) sound text node e =
    let sounds = and_parts (is_sound form) (list_all is_sound others) sound in
    elim (one_node (told_in form (form_read form text)) (forms_exact others text) node e) [
      | inl p ↦ exact_told form sounds.0 text node p
      | inr p ↦ all_told others sounds.1 text node p
    ]

-- what was read in one of libefivar's own forms
own_well : (text : List ℕ) (node : Node) (before rest : List ℕ) → own_read text ≡ Some (node, before) → past_spaces before ≡ rest
    → is_after_node rest ≡ true → WellRead text node rest
own_well text node before rest e spaces after = by (begins_call text) refl e
  where
    by : (b : Bool) → begins_call text ≡ b → cond b (own_call text) None ≡ Some (node, before) → WellRead text node rest
    by false c p = cc
    by true c p =
        let call = bind_some (cut_call text) _ (node, before) p in
        let read = with_rest (forms_exact libefivar_forms (tidied call.0.0)) call.0.1 node before call.2 in
        record {
          told = all_told libefivar_forms (group_sound 15 (omega arith)) (tidied call.0.0) node read.0;
          rest_of = spaced_rest text before rest (subst (λ (x : List ℕ). IsRestOf text x) read.1 (cut_end text call.0 call.1)) spaces;
          ends = after;
          starts = call_starts text c;
        }

libefivar_well : (is_rooted : Bool) (text : List ℕ) (node : Node) (rest : List ℕ) (o : Option (Node × List ℕ)) (f : Option NodeFault) → own_read text ≡ o
    → own_or_lenient is_rooted text o f ≡ Ok (node, rest) → WellRead text node rest
libefivar_well is_rooted text node rest (Some read) f p q =
    let end = ends_at text read node rest q in
    own_well text node read.1 rest (p ∙ (λ i. Some (end.read_node i, read.1))) end.spaces end.ends
libefivar_well is_rooted text node rest None (Some fault) p q = cc
libefivar_well is_rooted text node rest None None p q = lenient_well is_rooted text node rest q

-- no backslash ends a node
no_backslash : (a : ℕ) → ends_name a ≡ true → (a == 92) ≡ false
no_backslash a e = grind (arith, common_steps)

-- a text in the style of printed ones
printed_read : (text : List ℕ) (node : Node) (rest : List ℕ) → ok_or (ended (node_read text)) (fault_at_byte 0 AsPrinted) ≡ Ok (node, rest)
    → (node_read text ≡ Some (node, rest)) × (is_after_node rest ≡ true)
printed_read text node rest e = ends (node_read text) node rest (ok_some (ended (node_read text)) (fault_at_byte 0 AsPrinted) (node, rest) e)

styled_well : (style : TextStyle) (is_rooted : Bool) (text : List ℕ) (node : Node) (rest : List ℕ)
    → styled_read style is_rooted text ≡ Ok (node, rest) → WellRead text node rest
unfolding styled_read libefivar_read
styled_well Printed is_rooted text node rest e = let read = printed_read text node rest e in
    strict_well text node rest rest read.0 (past_spaces-after rest read.1) read.1
styled_well Lenient is_rooted text node rest e = lenient_well is_rooted text node rest e
styled_well Libefivar is_rooted text node rest e = libefivar_well is_rooted text node rest (own_read text) (own_fault text) refl e

pub styled_takes : StyledTakes
styled_takes style is_rooted text node rest e = (styled_well style is_rooted text node rest e).told

pub styled_ends : StyledEnds
styled_ends style is_rooted text node rest e = let well = styled_well style is_rooted text node rest e in (well.rest_of, well.ends)

pub styled_starts : StyledStarts
styled_starts style is_rooted text node rest e = (styled_well style is_rooted text node rest e).starts

pub styled_again : StyledAgain
unfolding styled_read
styled_again Printed is_rooted text takes node rest e after =
    ap (λ (o : Option (Node × List ℕ)). ok_or o (fault_at_byte 0 AsPrinted)) (ap ended e ∙ ap (λ (b : Bool). read_if b node rest) after)
styled_again Lenient is_rooted text takes node rest e after = lenient_again is_rooted text (not-true _ takes) node rest e after
styled_again Libefivar is_rooted text takes node rest e after = cc

-- the printed text of a node is read before whatever may follow a node, if it is read alone
pub takes_more : (style : TextStyle) (own after : List ℕ) → takes_printed style own ≡ true → is_after_node after ≡ true
    → takes_printed style (own ++ after) ≡ true
takes_more Printed own after takes ends = refl
takes_more Libefivar own after takes ends = cc
takes_more Lenient [] [] takes ends = refl
takes_more Lenient [] (a ∷ []) takes ends = refl
takes_more Lenient [] (a ∷ b ∷ others) takes ends = by (a == 92) (b == 92) (no_backslash a ends)
  where
    by : (s t : Bool) → s ≡ false → not (s && t) ≡ true
    by s t p = ap (λ (x : Bool). not (x && t)) p
takes_more Lenient (c ∷ []) [] takes ends = refl
takes_more Lenient (c ∷ []) (a ∷ others) takes ends = by (c == 92) (a == 92) (no_backslash a ends)
  where
    by : (s t : Bool) → t ≡ false → not (s && t) ≡ true
    by true t p = ap not p
    by false t p = refl
takes_more Lenient (c ∷ d ∷ cs) after takes ends = takes

pub printed_exactly : PrintedExactly
unfolding styled_read
printed_exactly is_rooted text node rest e = (printed_read text node rest e).0

-- where the fault of a call lies
own_within : (text : List ℕ) (fault : NodeFault) → own_fault text ≡ Some fault → fault.byte ≤ length text
own_within text fault e =
    let call = bind_some (cut_call text) _ fault e in
    placed (length (tidied call.0.0)) (own_stop (tidied call.0.0)) call.2
  where
    placed : (len : ℕ) (s : Option Stop)
        → option_map (λ (stop : Stop). fault_at_byte (place_at (len - stop.left) text) stop.expected) s ≡ Some fault → fault.byte ≤ length text
    placed len None p = cc
    placed len (Some stop) p =
        let same : fault_at_byte (place_at (len - stop.left) text) stop.expected ≡ fault = cc in
        subst (λ (f : NodeFault). f.byte ≤ length text) same (place_within (len - stop.left) text)

own_or_within : (is_rooted : Bool) (text : List ℕ) (o : Option (Node × List ℕ)) (f : Option NodeFault) → own_fault text ≡ f
    → Within text (own_or_lenient is_rooted text o f)
own_or_within is_rooted text (Some read) f p = end_within text read
own_or_within is_rooted text None (Some fault) p = own_within text fault p
own_or_within is_rooted text None None p = fault_within text is_rooted

pub styled_fault_within : StyledFaultWithin
unfolding styled_read libefivar_read
styled_fault_within Printed is_rooted text = or_within text (ended (node_read text)) (fault_at_byte 0 AsPrinted) (omega arith)
styled_fault_within Lenient is_rooted text = fault_within text is_rooted
styled_fault_within Libefivar is_rooted text = own_or_within is_rooted text (own_read text) (own_fault text) refl
