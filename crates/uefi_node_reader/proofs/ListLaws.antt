-- Items of a list are read back, and what is read is printed so.
use Rattle.std.proofs.Common.{◌≡◌, ℕ, zero, suc, ◌+◌, ◌*◌, ◌/◌, ◌<◌, ◌≤◌, Bool, true, false, ltb, not, ◌&&◌, List, [], ◌∷◌, ◌++◌, length, take, drop, refl, sym, ap, subst, ◌∙◌, append_assoc, length-append, arith}
use Rattle.std.proofs.lemmas.Bool.{and_parts}
use Rattle.std.specs.Prelude.{All, Option, Some, None}
use Rattle.std.specs.List.{concat, flat_map, list_all}
use Rattle.std.specs.Simd.{first_chunks}
use Rattle.std.proofs.Math.ListN.{replicate}
use Rattle.std.proofs.Math.Nat.{mul-div_left}
use Rattle.std.proofs.lemmas.List.{drop_at, length-replicate, take_at}
use Rattle.std.proofs.lemmas.List.Elements.{All-append, All-cons, All-drop, All-head, All-nil, All-tail, All-take}
use borrow.Author.Tests.{ltb-true}
use Rattle.uefi_text.specs.Packed.{IsByte}
use Rattle.uefi_device_nodes.specs.Rows.{Item, is_within, item_of, item_text, list_items, list_text, pieces_text}
use Rattle.uefi_device_nodes.specs.declared.node_table.rows.Items.{Items}
use Rattle.uefi_device_nodes.specs.declared.node_table.rows.Items.TheVariants.{Numbers, Ipv4, Ipv6}
use Rattle.uefi_node_reader.specs.FieldReading.{◌>>=◌}
use Rattle.uefi_node_reader.specs.Numerals.{digit_of, has_digit}
use Rattle.uefi_node_reader.specs.WordReading.{after}
use Rattle.uefi_node_reader.specs.TableReading.{AreItems, IsItem, are_apart, begins_apart, ends_pieces, is_sound_item, items_read, list_read, more_items, overlay, pieces_put}
use Rattle.uefi_node_reader.proofs.Digits.{some_pair}
use Rattle.uefi_node_reader.proofs.Literals.{after_again, after_takes, bind_some}
use Rattle.uefi_node_reader.proofs.PieceLaws.{pieces_again, pieces_takes}

pub sound_items : (items : Items) → is_sound_item (item_of items) ≡ true
unfolding item_of
sound_items Numbers = refl
sound_items Ipv4 = refl
sound_items Ipv6 = refl

-- what begins with no digit
pub apart : (start rest : List ℕ) → begins_apart start ≡ true → has_digit 16 (start ++ rest) ≡ false
apart [] rest e = cc
apart (c ∷ cs) rest e = by (ltb (digit_of c) 16) refl e
  where
    by : (b : Bool) → ltb (digit_of c) 16 ≡ b → not b ≡ true → ltb (digit_of c) 16 ≡ false
    by false p q = p
    by true p q = cc

-- what the test of an item says
record Sound (item : Item) : Type 0 where
  pub within : list_all (is_within item.size) item.pieces ≡ true
  pub apart : are_apart item.pieces ≡ true
  pub ends : ends_pieces true item.pieces ≡ true
  pub starts : begins_apart item.start ≡ true
  pub some : 0 < item.size

sound : (item : Item) → is_sound_item item ≡ true → Sound item
sound item e =
    let parts = and_parts (list_all (is_within item.size) item.pieces && are_apart item.pieces) _ e in
    let low = and_parts (list_all (is_within item.size) item.pieces) (are_apart item.pieces) parts.0 in
    let high = and_parts (ends_pieces true item.pieces) _ parts.1 in
    let last = and_parts (begins_apart item.start) (ltb 0 item.size) high.1 in
    record { within = low.0; apart = low.1; ends = high.0; starts = last.0; some = ltb-true _ _ last.1 }

zeros : (n : ℕ) → All IsByte (replicate n 0)
zeros zero = All-nil IsByte
zeros (suc n) = All-cons IsByte 0 (replicate n 0) (omega arith) (zeros n)

-- items lie one after the other
chunks_back : (size : ℕ) (items : List (List ℕ)) → All (λ item. length item ≡ size) items → first_chunks size (length items) (concat items) ≡ items
chunks_back size [] all = refl
chunks_back size (x ∷ xs) all =
    let P : List ℕ → Type 0 = λ item. length item ≡ size in
    let here = All-head P x xs all in
    let first : take size (x ++ concat xs) ≡ x = take_at x (concat xs) size here in
    let rest : drop size (x ++ concat xs) ≡ concat xs = drop_at x (concat xs) size here in
    (λ i. first i ∷ first_chunks size (length xs) (rest i)) ∙ ap (λ (l : List (List ℕ)). x ∷ l) (chunks_back size xs (All-tail P x xs all))

total : (size : ℕ) (items : List (List ℕ)) → All (λ item. length item ≡ size) items → length (concat items) ≡ length items * size
total size [] all = omega arith
total size (x ∷ xs) all =
    let P : List ℕ → Type 0 = λ item. length item ≡ size in
    let here = All-head P x xs all in
    let others = total size xs (All-tail P x xs all) in
    let sum = length-append x (concat xs) in
    let more : suc (length xs) * size ≡ size + length xs * size = grind arith in
    omega arith

sizes : (item : Item) (items : List (List ℕ)) → All (IsItem item) items → All (λ part. length part ≡ item.size) items
sizes item [] all = All-nil (λ part. length part ≡ item.size)
sizes item (x ∷ xs) all =
    All-cons (λ part. length part ≡ item.size) x xs (All-head (IsItem item) x xs all).0 (sizes item xs (All-tail (IsItem item) x xs all))

text_of : (item : Item) → 0 < item.size → (items : List (List ℕ)) → All (IsItem item) items → list_text item (concat items) ≡ flat_map (item_text item) items
text_of item some items all =
    let each = sizes item items all in
    let count : length (concat items) / item.size ≡ length items = ap (λ (n : ℕ). n / item.size) (total item.size items each) ∙ mul-div_left (length items) some in
    ap (λ (l : List (List ℕ)). flat_map (item_text item) l)
    (ap (λ (n : ℕ). first_chunks item.size n (concat items)) count ∙ chunks_back item.size items each)

-- the text of an item, with what follows
item_parts : (item : Item) (bytes others rest : List ℕ)
    → (item_text item bytes ++ others) ++ rest ≡ item.start ++ (pieces_text item.pieces bytes ++ (others ++ rest))
item_parts item bytes others rest = simp append_assoc

starts : (item : Item) → begins_apart item.start ≡ true → (items : List (List ℕ)) (rest : List ℕ) → has_digit 16 rest ≡ false
    → has_digit 16 (flat_map (item_text item) items ++ rest) ≡ false
starts item s [] rest e = e
starts item s (x ∷ xs) rest e =
    ap (λ (t : List ℕ). has_digit 16 t) (item_parts item x (flat_map (item_text item) xs) rest)
    ∙ apart item.start (pieces_text item.pieces x ++ (flat_map (item_text item) xs ++ rest)) s

some_text : (start rest : List ℕ) → begins_apart start ≡ true → 0 < length (start ++ rest)
some_text [] rest e = cc
some_text (c ∷ cs) rest e = omega arith

-- a text has a byte for each item at least
long_enough : (item : Item) → begins_apart item.start ≡ true → (items : List (List ℕ)) → length items ≤ length (flat_map (item_text item) items)
long_enough item s [] = omega arith
long_enough item s (x ∷ xs) =
    let some = some_text item.start (pieces_text item.pieces x) s in
    let sum = length-append (item_text item x) (flat_map (item_text item) xs) in
    omega (arith, long_enough item s xs)

items_again : (item : Item) → Sound item → (most : ℕ) (items : List (List ℕ)) → length items ≤ most → All (IsItem item) items → All IsByte (concat items)
    → (rest : List ℕ) → after item.start rest ≡ None → has_digit 16 rest ≡ false
    → items_read most item (flat_map (item_text item) items ++ rest) ≡ Some (concat items, rest)
items_again item is zero [] l all bytes rest a e = refl
items_again item is zero (x ∷ xs) l all bytes rest a e = absurd (omega arith)
items_again item is (suc most) [] l all bytes rest a e = ap (λ (o : Option (List ℕ)). more_items (items_read most item) item rest o) a
items_again item is (suc most) (x ∷ xs) l all bytes rest a e =
    let here = All-head (IsItem item) x xs all in
    let tail : List ℕ = flat_map (item_text item) xs ++ rest in
    let text : List ℕ = flat_map (item_text item) (x ∷ xs) ++ rest in
    let whole = item_parts item x (flat_map (item_text item) xs) rest in
    let own : All IsByte x = subst (λ (l : List ℕ). All IsByte l) (take_at x (concat xs) (length x) refl) (All-take IsByte (length x) (x ++ concat xs) bytes) in
    let left : All IsByte (concat xs) = subst (λ (l : List ℕ). All IsByte l) (drop_at x (concat xs) (length x) refl) (All-drop IsByte (length x) (x ++ concat xs) bytes) in
    let first = pieces_again item.size item.pieces (replicate item.size 0) x tail is.within true is.ends (λ _. starts item is.starts xs rest e) (omega (arith, here.0)) own in
    let others = items_again item is most xs (omega arith) (All-tail (IsItem item) x xs all) left rest a e in
    ap (λ (o : Option (List ℕ)). more_items (items_read most item) item text o)
    (ap (λ (t : List ℕ). after item.start t) whole ∙ after_again item.start (pieces_text item.pieces x ++ tail))
    ∙ ap (λ (o : Option (List ℕ × List ℕ)). o >>= next) first
    ∙ ap (λ (o : Option (List ℕ × List ℕ)). o >>= join (overlay item.pieces x (replicate item.size 0))) others
    ∙ ap (λ (l : List ℕ). Some (l ++ concat xs, rest)) here.1
  where
    join : List ℕ → List ℕ × List ℕ → Option (List ℕ × List ℕ)
    join first read = Some (first ++ read.0, read.1)

    next : List ℕ × List ℕ → Option (List ℕ × List ℕ)
    next first = items_read most item first.1 >>= λ read. Some (first.0 ++ read.0, read.1)

-- what is known of items that were read
record ItemsTaken (item : Item) (text bytes rest : List ℕ) : Type 0 where
  pub items : List (List ℕ)
  pub are : bytes ≡ concat items
  pub all : All (IsItem item) items
  pub text_is : text ≡ flat_map (item_text item) items ++ rest
  pub small : All IsByte bytes

none_taken : (item : Item) (text bytes rest : List ℕ) → items_read zero item text ≡ Some (bytes, rest) → ItemsTaken item text bytes rest
none_taken item text bytes rest e =
    let nothing : List ℕ × List ℕ = ([], text) in
    let same = some_pair nothing (bytes, rest) e in
    record { items = []; are = sym same.0; all = All-nil (IsItem item); text_is = same.1; small = subst (λ (l : List ℕ). All IsByte l) same.0 (All-nil IsByte) }

items_takes : (item : Item) → Sound item → (most : ℕ) (text bytes rest : List ℕ) → items_read most item text ≡ Some (bytes, rest)
    → ItemsTaken item text bytes rest
items_takes item is zero text bytes rest e = none_taken item text bytes rest e
items_takes item is (suc most) text bytes rest e = by (after item.start text) refl e (items_takes item is most)
  where
    blank : List ℕ
    blank = replicate item.size 0

    by : (o : Option (List ℕ)) → after item.start text ≡ o → more_items (items_read most item) item text o ≡ Some (bytes, rest)
        → ((t b r : List ℕ) → items_read most item t ≡ Some (b, r) → ItemsTaken item t b r) → ItemsTaken item text bytes rest
    by None p q h = none_taken item text bytes rest q
    by (Some t) p q h =
        let x = bind_some (pieces_put item.pieces blank t) _ (bytes, rest) q in
        let y = bind_some (items_read most item x.0.1) _ (bytes, rest) x.2 in
        let same = some_pair (x.0.0 ++ y.0.0, y.0.1) (bytes, rest) y.2 in
        let first = pieces_takes item.size item.pieces blank t x.0.0 x.0.1 is.within is.apart (length-replicate item.size 0) (zeros item.size) x.1 in
        let others = h x.0.1 y.0.0 y.0.1 y.1 in
        let whole : text ≡ flat_map (item_text item) (x.0.0 ∷ others.items) ++ y.0.1 =
        after_takes item.start text t p ∙ ap (λ (l : List ℕ). item.start ++ l) (first.text_is ∙ ap (λ (l : List ℕ). pieces_text item.pieces x.0.0 ++ l) others.text_is)
        ∙ sym (item_parts item x.0.0 (flat_map (item_text item) others.items) y.0.1) in
        record {
          items = x.0.0 ∷ others.items;
          are = sym same.0 ∙ ap (λ (l : List ℕ). x.0.0 ++ l) others.are;
          all = All-cons (IsItem item) x.0.0 others.items (first.size ∙ length-replicate item.size 0, first.overlaid) others.all;
          text_is = whole ∙ ap (λ (l : List ℕ). flat_map (item_text item) (x.0.0 ∷ others.items) ++ l) same.1;
          small = subst (λ (l : List ℕ). All IsByte l) same.0 (All-append IsByte x.0.0 y.0.0 first.bytes others.small);
        }

-- what stands after a list, or in place of one
pub list_starts : (item : Item) → is_sound_item item ≡ true → (bytes rest : List ℕ) → has_digit 16 rest ≡ false
    → has_digit 16 (list_text item bytes ++ rest) ≡ false
list_starts item s bytes rest e = let is = sound item s in starts item is.starts (list_items item.size bytes) rest e

pub list_again : (item : Item) → is_sound_item item ≡ true → (bytes : List ℕ) → AreItems item bytes → All IsByte bytes → (rest : List ℕ)
    → after item.start rest ≡ None → has_digit 16 rest ≡ false → list_read item (list_text item bytes ++ rest) ≡ Some (bytes, rest)
list_again item s bytes told all rest a e =
    let is = sound item s in
    let text : list_text item bytes ≡ flat_map (item_text item) told.0 = ap (λ (l : List ℕ). list_text item l) told.1.0 ∙ text_of item is.some told.0 told.1.1 in
    let long = long_enough item is.starts told.0 in
    let sum = length-append (flat_map (item_text item) told.0) rest in
    ap (λ (l : List ℕ). list_read item (l ++ rest)) text
    ∙ items_again item is (length (flat_map (item_text item) told.0 ++ rest)) told.0 (omega arith) told.1.1
    (subst (λ (l : List ℕ). All IsByte l) told.1.0 all) rest a e
    ∙ ap (λ (l : List ℕ). Some (l, rest)) (sym told.1.0)

pub list_takes : (item : Item) → is_sound_item item ≡ true → (text bytes rest : List ℕ) → list_read item text ≡ Some (bytes, rest)
    → (text ≡ list_text item bytes ++ rest) × (All IsByte bytes) × (AreItems item bytes)
list_takes item s text bytes rest e =
    let is = sound item s in
    let read = items_takes item is (length text) text bytes rest e in (
      read.text_is ∙ ap (λ (l : List ℕ). l ++ rest) (sym (ap (λ (l : List ℕ). list_text item l) read.are ∙ text_of item is.some read.items read.all)),
      read.small,
      (read.items, (read.are, read.all)),
    )
