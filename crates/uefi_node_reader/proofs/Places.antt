-- Fields that are put into data, and what lies at their places then.
use Rattle.std.proofs.Common.{◌≡◌, ℕ, ◌+◌, ◌-◌, ◌≤◌, Bool, true, false, leb, List, ◌||◌, ◌++◌, length, take, drop, refl, sym, ap, ◌∙◌, arith, length-append, length-drop}
use Rattle.std.specs.Prelude.{All}
use Rattle.std.proofs.lemmas.Bool.{leb-true}
use Rattle.std.proofs.lemmas.List.{length-take}
use Rattle.std.proofs.lemmas.List.Edits.{length-between}
use Rattle.std.proofs.lemmas.List.Elements.{All-append, All-take, All-drop}
use Rattle.std.proofs.lemmas.Slice.{between_is, between-put_mid, drop-put_mid, take-put_mid_below}
use Rattle.uefi_text.specs.Packed.{IsByte}
use Rattle.uefi_node_reader.specs.FieldReading.{IsValue}
use Rattle.uefi_device_nodes.specs.Rows.{Piece, value_at}
use Rattle.uefi_node_reader.specs.TableReading.{is_apart, put_at}

-- what lies where a field was put
pub put_get : (p : Piece) (value content : List ℕ) → length value ≡ p.width → p.place + p.width ≤ length content
    → value_at p (put_at p value content) ≡ value
put_get p value content w l = between-put_mid p.place p.width content value (p.place + p.width) (omega arith) (omega arith)

-- what lies elsewhere
pub put_other : (q p : Piece) (value content : List ℕ) → is_apart q p ≡ true → length value ≡ p.width → p.place + p.width ≤ length content
    → value_at q (put_at p value content) ≡ value_at q content
put_other q p value content e w l = by (leb (q.place + q.width) p.place) refl e
  where
    size : ℕ
    size = q.place + q.width - q.place

    by : (b : Bool) → leb (q.place + q.width) p.place ≡ b → b || leb (p.place + p.width) q.place ≡ true
        → value_at q (put_at p value content) ≡ value_at q content
    by true h i =
        let before = leb-true _ _ h in
        between_is (put_at p value content) q.place (q.place + q.width)
        ∙ ap (λ (x : List ℕ). drop q.place x) (take-put_mid_below p.place p.width content value (q.place + q.width) before (omega arith))
        ∙ sym (between_is content q.place (q.place + q.width))
    by false h i =
        let after = leb-true _ _ i in
        ap (λ (x : List ℕ). take size x) (drop-put_mid p.place p.width content value q.place after (omega arith) w)

pub length-put : (p : Piece) (value content : List ℕ) → length value ≡ p.width → p.place + p.width ≤ length content
    → length (put_at p value content) ≡ length content
length-put p value content w l =
    let a = length-append (take p.place content) (value ++ drop p.width (drop p.place content)) in
    let b = length-append value (drop p.width (drop p.place content)) in
    let c = length-drop p.width (drop p.place content) in
    let d = length-drop p.place content in
    let e = length-take p.place content in omega arith

pub put_bytes : (p : Piece) (value content : List ℕ) → All IsByte value → All IsByte content → All IsByte (put_at p value content)
put_bytes p value content v c = All-append IsByte _ _ (All-take IsByte p.place content c)
    (All-append IsByte _ _ v (All-drop IsByte p.width _ (All-drop IsByte p.place content c)))

-- what lies at the place of a field is one
pub value_is : (p : Piece) (content : List ℕ) → p.place + p.width ≤ length content → All IsByte content → IsValue p.width (value_at p content)
value_is p content l c = (
  length-between content p.place (p.place + p.width) l ∙ omega arith,
  All-take IsByte _ _ (All-drop IsByte p.place content c),
)
