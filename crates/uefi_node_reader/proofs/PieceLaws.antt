-- The texts of fields are read back into their places, and what is read is printed so.
use Rattle.std.proofs.Common.{◌≡◌, ℕ, ◌+◌, ◌≤◌, Bool, true, false, eqb, List, [], ◌∷◌, ◌&&◌, ◌||◌, ◌++◌, length, refl, sym, ap, subst, ◌∙◌, append_assoc, arith}
use Rattle.std.specs.Prelude.{All, not, Option, Some, None, option_and_then}
use Rattle.std.specs.List.{list_all}
use Rattle.std.proofs.lemmas.Bool.{and_from, and_parts, leb-true}
use borrow.Author.Tests.{eqb-true}
use Rattle.uefi_text.specs.Packed.{IsByte}
use Rattle.uefi_node_reader.specs.FieldReading.{field_kept, field_read, IsValue}
use Rattle.uefi_node_reader.specs.WordReading.{after}
use Rattle.uefi_device_nodes.specs.Fields.{field_text, fits_shape}
use Rattle.uefi_node_reader.specs.Numerals.{has_digit}
use Rattle.uefi_device_nodes.proofs.Lists.{all_of_both}
use Rattle.uefi_device_nodes.specs.Rows.{Piece, is_within, piece_text, pieces_text, value_at}
use Rattle.uefi_node_reader.specs.TableReading.{are_apart, ends_field, ends_pieces, goes_on, is_apart, is_empty, put_at}
use Rattle.uefi_node_reader.specs.TableReading.{are_parted, list_number, overlay, piece_put, pieces_differ, pieces_put, same_shape}
use Rattle.uefi_node_reader.specs.WordReading.{clash, same_text}
use Rattle.uefi_device_nodes.specs.declared.node_table.rows.Shape.{Shape}
use Rattle.uefi_device_nodes.specs.declared.node_table.rows.Shape.TheVariants.{Hexadecimal, Decimal, OrDefault, Back, Forth, Dashed, Next, Eisa, Word}
use Rattle.uefi_device_nodes.specs.declared.node_table.words.Words.{Words}
use Rattle.uefi_device_nodes.specs.declared.node_table.words.Words.TheVariants.{Parity, StopBits, Digests, Login, Protocol}
use Rattle.uefi_node_reader.proofs.Digits.{some_pair}
use Rattle.uefi_node_reader.proofs.DigitTexts.{parted_none}
use Rattle.uefi_node_reader.proofs.Literals.{after_again, after_some, after_takes, bind_some, clash_none, same_is}
use Rattle.uefi_node_reader.proofs.FieldLaws.{ends_is, field_again, field_takes, open_is}
use Rattle.uefi_node_reader.proofs.Places.{length-put, put_bytes, put_get, put_other, value_is}

-- what is known of a field that lies within data
pub within_parts : (n : ℕ) (p : Piece) → is_within n p ≡ true → (p.place + p.width ≤ n) × (fits_shape p.shape p.width ≡ true)
within_parts n p e = let parts = and_parts _ _ e in (leb-true _ _ parts.0, parts.1)

-- the text of a field, with what follows
text_parts : (p : Piece) (content others rest : List ℕ)
    → (piece_text content p ++ others) ++ rest ≡ field_text p.shape (value_at p content) ++ (p.ending ++ (others ++ rest))
text_parts p content others rest = simp append_assoc

-- fields that were read: what they are
pub record Taken (pieces : List Piece) (content text found rest : List ℕ) : Type 0 where
  pub text_is : text ≡ pieces_text pieces found ++ rest
  pub overlaid : overlay pieces found content ≡ found
  pub size : length found ≡ length content
  pub bytes : All IsByte found
  pub others : (q : Piece) → list_all (is_apart q) pieces ≡ true → value_at q found ≡ value_at q content

pub pieces_takes : (n : ℕ) (pieces : List Piece) (content text found rest : List ℕ) → list_all (is_within n) pieces ≡ true → are_apart pieces ≡ true
    → length content ≡ n → All IsByte content → pieces_put pieces content text ≡ Some (found, rest) → Taken pieces content text found rest
pieces_takes n [] content text found rest w a l c e =
    let same = some_pair (content, text) (found, rest) e in
    record { text_is = same.1; overlaid = same.0; size = sym (ap length same.0); bytes = subst (λ (x : List ℕ). All IsByte x) same.0 c; others = λ q h. ap (value_at q) (sym same.0) }
pieces_takes n (p ∷ ps) content text found rest w a l c e =
    let ws = and_parts (is_within n p) (list_all (is_within n) ps) w in
    let sides = and_parts (list_all (is_apart p) ps) (are_apart ps) a in
    let here = within_parts n p ws.0 in
    let long : p.place + p.width ≤ length content = omega (arith, here.0) in
    let x = bind_some (piece_put p content text) _ (found, rest) e in
    let v = bind_some (field_read p.shape p.width text) _ x.0 x.1 in
    let t = bind_some (after p.ending v.0.1) _ x.0 v.2 in
    let same = some_pair (put_at p v.0.0 content, t.0) x.0 t.2 in
    let first = field_takes p.shape p.width here.1 text v.0.0 v.0.1 v.1 in
    let then = after_takes p.ending v.0.1 t.0 t.1 in
    let wide : length v.0.0 ≡ p.width = first.1.0 in
    let put : List ℕ = put_at p v.0.0 content in
    let others = pieces_takes n ps put t.0 found rest ws.1 sides.1 (length-put p v.0.0 content wide long ∙ l)
    (put_bytes p v.0.0 content first.1.1 c) ((λ i. pieces_put ps (same.0 i) (same.1 i)) ∙ x.2) in
    let value : value_at p found ≡ v.0.0 = others.others p sides.0 ∙ put_get p v.0.0 content wide long in
    record {
      text_is = first.0 ∙ ap (λ (y : List ℕ). field_text p.shape v.0.0 ++ y) (then ∙ ap (λ (y : List ℕ). p.ending ++ y) others.text_is)
          ∙ ap (λ (y : List ℕ). field_text p.shape y ++ (p.ending ++ (pieces_text ps found ++ rest))) (sym value)
          ∙ sym (text_parts p found (pieces_text ps found) rest);
      overlaid = ap (λ (y : List ℕ). overlay ps found (put_at p y content)) (ap (field_kept p.shape) value ∙ first.2) ∙ others.overlaid;
      size = others.size ∙ length-put p v.0.0 content wide long;
      bytes = others.bytes;
      others = λ q h. let hs = and_parts (is_apart q p) (list_all (is_apart q) ps) h in others.others q hs.1 ∙ put_other q p v.0.0 content hs.0 wide long;
    }

-- fields of which none lies in another, in two parts
pub record Apart (ps qs : List Piece) : Type 0 where
  pub front : are_apart ps ≡ true
  pub back : are_apart qs ≡ true
  pub both : list_all (λ (p : Piece). list_all (is_apart p) qs) ps ≡ true

pub apart_parts : (ps qs : List Piece) → are_apart (ps ++ qs) ≡ true → Apart ps qs
apart_parts [] qs e = record { front = refl; back = e; both = refl }
apart_parts (p ∷ ps) qs e =
    let parts = and_parts (list_all (is_apart p) (ps ++ qs)) (are_apart (ps ++ qs)) e in
    let here = all_of_both (is_apart p) ps qs parts.0 in
    let others = apart_parts ps qs parts.1 in
    record { front = and_from _ _ here.0 others.front; back = others.back; both = and_from _ _ here.1 others.both }

pub overlay-append : (ps qs : List Piece) (source content : List ℕ) → overlay (ps ++ qs) source content ≡ overlay qs source (overlay ps source content)
overlay-append [] qs source content = refl
overlay-append (p ∷ ps) qs source content = overlay-append ps qs source (put_at p (field_kept p.shape (value_at p source)) content)

-- fields that lie alike in other data
pub alike : (test : Piece → Bool) (one other : List ℕ) → ((p : Piece) → test p ≡ true → value_at p one ≡ value_at p other)
    → (pieces : List Piece) → list_all test pieces ≡ true
    → (pieces_text pieces one ≡ pieces_text pieces other) × ((content : List ℕ) → overlay pieces one content ≡ overlay pieces other content)
alike test one other same [] e = (refl, λ content. refl)
alike test one other same (p ∷ ps) e =
    let parts = and_parts (test p) (list_all test ps) e in
    let value = same p parts.0 in
    let others = alike test one other same ps parts.1 in (
      (λ i. (field_text p.shape (value i) ++ p.ending) ++ others.0 i),
      λ content. ap (λ (x : List ℕ). overlay ps one (put_at p (field_kept p.shape x) content)) value
          ∙ others.1 (put_at p (field_kept p.shape (value_at p other)) content),
    )

-- fields are put into as many bytes
pub put_size : (n : ℕ) (pieces : List Piece) (content text found rest : List ℕ) → list_all (is_within n) pieces ≡ true → length content ≡ n
    → pieces_put pieces content text ≡ Some (found, rest) → length found ≡ n
put_size n [] content text found rest w l e = sym (ap length (some_pair (content, text) (found, rest) e).0) ∙ l
put_size n (p ∷ ps) content text found rest w l e =
    let ws = and_parts (is_within n p) (list_all (is_within n) ps) w in
    let here = within_parts n p ws.0 in
    let x = bind_some (piece_put p content text) _ (found, rest) e in
    let v = bind_some (field_read p.shape p.width text) _ x.0 x.1 in
    let t = bind_some (after p.ending v.0.1) _ x.0 v.2 in
    let same = some_pair (put_at p v.0.0 content, t.0) x.0 t.2 in
    let wide = (field_takes p.shape p.width here.1 text v.0.0 v.0.1 v.1).1.0 in
    put_size n ps (put_at p v.0.0 content) t.0 found rest ws.1 (length-put p v.0.0 content wide (omega (arith, here.0, l)) ∙ l)
    ((λ i. pieces_put ps (same.0 i) (same.1 i)) ∙ x.2)

-- a text that ends a field before others: its own ending, or where it has none and no other follows, what begins with no digit
and_false : (b : Bool) → b && false ≡ true → (Z : Type 0) → Z
and_false true e Z = cc
and_false false e Z = cc

piece_ends : (free : Bool) (p : Piece) (others : List Piece) (source rest : List ℕ)
    → ends_field p.shape p.ending || (free && (is_empty others && (is_empty p.ending && not (goes_on p.shape [])))) ≡ true → (free ≡ true → has_digit 16 rest ≡ false)
    → goes_on p.shape (p.ending ++ (pieces_text others source ++ rest)) ≡ false
piece_ends free p others source rest e h = by (ends_field p.shape p.ending) refl others e
  where
    bare : (ending tail : List ℕ) → is_empty ending ≡ true → not (goes_on p.shape []) ≡ true → has_digit 16 tail ≡ false → goes_on p.shape (ending ++ tail) ≡ false
    bare [] tail b n d = open_is p.shape tail n d
    bare (c ∷ cs) tail b n d = cc

    by : (b : Bool) → ends_field p.shape p.ending ≡ b → (others : List Piece) → b || (free && (is_empty others && (is_empty p.ending && not (goes_on p.shape [])))) ≡ true
        → goes_on p.shape (p.ending ++ (pieces_text others source ++ rest)) ≡ false
    by true f others g = ends_is p.shape p.ending (pieces_text others source ++ rest) f
    by false f [] g =
        let parts = and_parts free (is_empty p.ending && not (goes_on p.shape [])) g in
        let last = and_parts (is_empty p.ending) (not (goes_on p.shape [])) parts.1 in
        bare p.ending rest last.0 last.1 (h parts.0)
    by false f (q ∷ qs) g = and_false free g _

piece_again : (p : Piece) (content value tail : List ℕ) → fits_shape p.shape p.width ≡ true → goes_on p.shape (p.ending ++ tail) ≡ false → IsValue p.width value
    → piece_put p content (field_text p.shape value ++ (p.ending ++ tail)) ≡ Some (put_at p (field_kept p.shape value) content, tail)
piece_again p content value tail f e is =
    rw (field_again p.shape p.width f value (p.ending ++ tail) is e)
    (rw (after_again p.ending tail) refl)

pub pieces_again : (n : ℕ) (pieces : List Piece) (content source rest : List ℕ) → list_all (is_within n) pieces ≡ true
    → (free : Bool) → ends_pieces free pieces ≡ true → (free ≡ true → has_digit 16 rest ≡ false) → n ≤ length source → All IsByte source
    → pieces_put pieces content (pieces_text pieces source ++ rest) ≡ Some (overlay pieces source content, rest)
pieces_again n [] content source rest w free e h l s = refl
pieces_again n (p ∷ ps) content source rest w free e h l s =
    let ws = and_parts (is_within n p) (list_all (is_within n) ps) w in
    let es = and_parts (ends_field p.shape p.ending || (free && (is_empty ps && (is_empty p.ending && not (goes_on p.shape []))))) (ends_pieces free ps) e in
    let here = within_parts n p ws.0 in
    let value : List ℕ = value_at p source in
    let tail : List ℕ = pieces_text ps source ++ rest in
    ap (λ (x : List ℕ). pieces_put (p ∷ ps) content x) (text_parts p source (pieces_text ps source) rest)
    ∙ after_some _ (λ (read : List ℕ × List ℕ). pieces_put ps read.0 read.1) (put_at p (field_kept p.shape value) content, tail)
    (piece_again p content value tail here.1 (piece_ends free p ps source rest es.0 h) (value_is p source (omega (arith, here.0)) s))
    ∙ pieces_again n ps (put_at p (field_kept p.shape value) content) source rest ws.1 free es.1 h l s

same_list : (a b : Words) → eqb (list_number a) (list_number b) ≡ true → a ≡ b
same_list Parity Parity e = refl
same_list StopBits StopBits e = refl
same_list Digests Digests e = refl
same_list Login Login e = refl
same_list Protocol Protocol e = refl
same_list a b e = cc

shape_is : (a b : Shape) → same_shape a b ≡ true → a ≡ b
shape_is Hexadecimal Hexadecimal e = refl
shape_is Decimal Decimal e = refl
shape_is OrDefault OrDefault e = refl
shape_is Back Back e = refl
shape_is Forth Forth e = refl
shape_is Dashed Dashed e = refl
shape_is Next Next e = refl
shape_is Eisa Eisa e = refl
shape_is (Word a) (Word b) e = ap Word (same_list a b e)
shape_is a b e = cc

-- fields are not read where others stand that differ
pub differ_none : (n : ℕ) (ps qs : List Piece) (content source rest : List ℕ) → pieces_differ ps qs ≡ true → list_all (is_within n) qs ≡ true
    → (free : Bool) → ends_pieces free qs ≡ true → (free ≡ true → has_digit 16 rest ≡ false) → n ≤ length source → All IsByte source
    → pieces_put ps content (pieces_text qs source ++ rest) ≡ None
differ_none n [] qs content source rest d w free e h l s = cc
differ_none n (p ∷ ps) [] content source rest d w free e h l s = cc
differ_none n (p ∷ ps) (q ∷ qs) content source rest d w free e h l s =
    let ws = and_parts (is_within n q) (list_all (is_within n) qs) w in
    let here = within_parts n q ws.0 in
    let whole = text_parts q source (pieces_text qs source) rest in
    let is = value_is q source (omega (arith, here.0)) s in
    ap (λ (x : List ℕ). pieces_put (p ∷ ps) content x) whole ∙ either (are_parted p q) refl d here.1 is (λ d.
    let ds = and_parts (same_shape p.shape q.shape && eqb p.width q.width) (clash p.ending q.ending || (same_text p.ending q.ending && pieces_differ ps qs)) d in
    let alike = and_parts (same_shape p.shape q.shape) (eqb p.width q.width) ds.0 in
    let es = and_parts (ends_field q.shape q.ending || (free && (is_empty qs && (is_empty q.ending && not (goes_on q.shape []))))) (ends_pieces free qs) e in
    let shape = shape_is p.shape q.shape alike.0 in
    let width = eqb-true p.width q.width alike.1 in
    let read : field_read p.shape p.width (field_text q.shape value ++ (q.ending ++ tail)) ≡ Some (kept, q.ending ++ tail) =
    (λ i. field_read (shape i) (width i) (field_text q.shape value ++ (q.ending ++ tail)))
    ∙ field_again q.shape q.width here.1 value (q.ending ++ tail) is (piece_ends free q qs source rest es.0 h) in
    ap (λ (o : Option (List ℕ × List ℕ)). go (option_and_then from_value o)) read
    ∙ by (clash p.ending q.ending) refl ds.1 (λ d. differ_none n ps qs (put_at p kept content) source rest d ws.1 free es.1 h l s))
  where
    go : Option (List ℕ × List ℕ) → Option (List ℕ × List ℕ)
    go o = option_and_then (λ (x : List ℕ × List ℕ). pieces_put ps x.0 x.1) o

    put : List ℕ → List ℕ → Option (List ℕ × List ℕ)
    put value left = Some (put_at p value content, left)

    from_value : List ℕ × List ℕ → Option (List ℕ × List ℕ)
    from_value v = option_and_then (put v.0) (after p.ending v.1)

    value : List ℕ
    value = value_at q source

    either : (b : Bool) → are_parted p q ≡ b
        → b || ((same_shape p.shape q.shape && eqb p.width q.width) && (clash p.ending q.ending || (same_text p.ending q.ending && pieces_differ ps qs))) ≡ true
        → fits_shape q.shape q.width ≡ true → IsValue q.width value
        → ((same_shape p.shape q.shape && eqb p.width q.width) && (clash p.ending q.ending || (same_text p.ending q.ending && pieces_differ ps qs)) ≡ true
        → pieces_put (p ∷ ps) content (field_text q.shape value ++ (q.ending ++ (pieces_text qs source ++ rest))) ≡ None)
        → pieces_put (p ∷ ps) content (field_text q.shape value ++ (q.ending ++ (pieces_text qs source ++ rest))) ≡ None
    either true a e f is others = ap go (parted_none p q a f content value (pieces_text qs source ++ rest) is)
    either false a e f is others = others e

    kept : List ℕ
    kept = field_kept q.shape value

    tail : List ℕ
    tail = pieces_text qs source ++ rest

    by : (b : Bool) → clash p.ending q.ending ≡ b → b || (same_text p.ending q.ending && pieces_differ ps qs) ≡ true
        → (pieces_differ ps qs ≡ true → pieces_put ps (put_at p kept content) tail ≡ None)
        → go (option_and_then (put kept) (after p.ending (q.ending ++ tail))) ≡ None
    by true h i others = ap (λ (o : Option (List ℕ)). go (option_and_then (put kept) o)) (clash_none p.ending q.ending tail h)
    by false h i others =
        let parts = and_parts (same_text p.ending q.ending) (pieces_differ ps qs) i in
        ap (λ (o : Option (List ℕ)). go (option_and_then (put kept) o))
        (ap (λ (y : List ℕ). after y (q.ending ++ tail)) (same_is p.ending q.ending parts.0) ∙ after_again q.ending tail)
        ∙ others parts.1
