-- A node that was read in a form, and that its text tells; and forms that are tried one after the other.
use Rattle.std.proofs.Common.{◌≡◌, Bool, true, false, cond, leb, ◌&&◌, ◌⊎◌, List, [], ◌∷◌, ℕ, ◌+◌, length, refl, sym, ap, ◌∙◌, inl, inr}
use Rattle.std.specs.Prelude.{Option, Some, None, Result, Ok, Err}
use Rattle.std.specs.List.{list_all}
use Rattle.std.proofs.lemmas.Bool.{and_parts}
use Rattle.uefi_device_nodes.specs.Rows.{Form, find_form}
use Rattle.uefi_device_nodes.specs.Table.{forms}
use Rattle.uefi_device_nodes.specs.Nodes.{Node, node_with}
use Rattle.uefi_node_reader.specs.CompleteTexts.{tells, tells_data}
use Rattle.uefi_node_reader.specs.LenientCalls.{first_tried, or_next, told_in}
use Rattle.uefi_node_reader.specs.NamedFiles.{IsTold}
use Rattle.uefi_node_reader.specs.ParsedNodes.{fitting}
use Rattle.uefi_node_reader.specs.Stops.{further}
use Rattle.uefi_node_reader.specs.TableReading.{is_empty, prints}
use Rattle.uefi_node_reader.specs.declared.errors.faults.Stop.{Stop}

-- the test for an empty text
pub empty_is : (rest : List ℕ) → true ≡ is_empty rest → rest ≡ []
empty_is [] e = refl
empty_is (c ∷ cs) e = cc

-- the node of a form with these data
abbrev pub of_form : Form → List ℕ → Node
of_form form content = node_with form.kind form.sub_kind content

-- a node that its text tells has no more data than a node may have
pub told_in-fitting : (form : Form) (o : Option (List ℕ × List ℕ)) → told_in form (fitting o) ≡ told_in form o
unfolding tells
told_in-fitting form None = refl
told_in-fitting form (Some read) = by (leb (length read.0) 0xfffb) refl
  where
    no : (x y : Bool) → None ≡ cond (x && (false && y)) (Some (of_form form read.0)) None
    no true y = refl
    no false y = refl

    by : (t : Bool) → leb (length read.0) 0xfffb ≡ t
        → told_in form (cond t (Some read) None)
        ≡ cond (is_empty read.1 && (leb (length read.0) 0xfffb && tells_data form read.0 (find_form (prints (of_form form read.0)) forms))) (Some (of_form form read.0)) None
    by true p = refl
    by false p = no (is_empty read.1) (tells_data form read.0 (find_form (prints (of_form form read.0)) forms))
        ∙ ap (λ (t : Bool). cond (is_empty read.1 && (t && tells_data form read.0 (find_form (prints (of_form form read.0)) forms))) (Some (of_form form read.0)) None) (sym p)

-- a node that its text tells
pub told_as : (form : Form) (o : Option (List ℕ × List ℕ)) (node : Node) → told_in form o ≡ Some node
    → (read : List ℕ × List ℕ) × (o ≡ Some read) × (tells form (of_form form read.0) ≡ true) × (of_form form read.0 ≡ node)
told_as form None node e = cc
told_as form (Some read) node e = by (is_empty read.1) (tells form (of_form form read.0)) refl e
  where
    by : (a b : Bool) → tells form (of_form form read.0) ≡ b → cond (a && b) (Some (of_form form read.0)) None ≡ Some node
        → (x : List ℕ × List ℕ) × (Some read ≡ Some x) × (tells form (of_form form x.0) ≡ true) × (of_form form x.0 ≡ node)
    by false b p q = cc
    by true false p q = cc
    by true true p q = let same : of_form form read.0 ≡ node = cc in (read, refl, p, same)

-- a node that was read, or else the next
pub next_way : (r : Result Node (Option Stop)) (next : Option Stop → Result Node (Option Stop)) (node : Node) → or_next r next ≡ Ok node
    → (r ≡ Ok node) ⊎ ((stop : Option Stop) × (next stop ≡ Ok node))
next_way (Ok x) next node e = inl e
next_way (Err stop) next node e = inr (stop, e)

-- what is read in one of these ways is told, if what is read in each is
module _ {W : Type 0} (tried : W → Result Node (Option Stop)) (test : W → Bool)
    (told : (way : W) → test way ≡ true → (node : Node) → tried way ≡ Ok node → IsTold node) where
  pub all_told : (place : ℕ) (all : List W) → list_all test all ≡ true → (furthest : Option Stop) (node : Node)
      → first_tried (λ place. tried) place all furthest ≡ Ok node → IsTold node
  all_told place [] tests furthest node e = cc
  all_told place (way ∷ others) tests furthest node e =
      let parts = and_parts (test way) (list_all test others) tests in
      elim (next_way (tried way) (λ stop. first_tried (λ place. tried) (place + 1) others (further furthest stop)) node e) [
        | inl p ↦ told way parts.0 node p
        | inr p ↦ all_told (place + 1) others parts.1 (further furthest p.0) node p.1
      ]
