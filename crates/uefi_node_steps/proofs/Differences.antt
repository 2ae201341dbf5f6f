-- Steps that do not read what other steps print.
use Rattle.std.proofs.Common.{◌≡◌, ℕ, ◌+◌, ◌*◌, ◌/◌, ◌%◌, ◌<◌, Bool, true, false, cond, eqb, List, [], ◌∷◌, ◌++◌, ◌&&◌, ◌||◌, not, refl, sym, ap, subst, ◌∙◌, append_assoc, arith}
use Rattle.std.proofs.lemmas.Bool.Decides.{nat_tests}
use Rattle.std.proofs.lemmas.Bool.{and_from, and_parts, cond-false, cond-true}
use Rattle.std.proofs.Math.ListN.{replicate}
use Rattle.std.specs.Char.{to_ascii_uppercase}
use Rattle.std.specs.List.{list_all}
use Rattle.std.specs.Option.{option_map}
use Rattle.std.specs.Prelude.{nat_le, nat_lt, if◌then◌else◌, Option, Some, None, is_some, Result, Ok, Err, codes}
use borrow.Author.Tests.{eqb-true}
use Rattle.uefi_node_steps.specs.Leaves.{ByteLeaf, Each, IsBytes, Leaf, Read, ◌>>=◌, after_base, any_number, behind_each, both, by_base, clash, decimal, digit_of, digits_read, ends_at, expect, has_digit, have_no_blank, in_bytes, ipv4, ipv6, is_blank, is_comma, is_spare, letters_read, literal, low_bytes, many_text, number_read, pair, pairs, past_blanks, spared, stop_at, two_decimals}
use Rattle.uefi_node_steps.specs.Steps.{FitSteps, FitsLists, FitsShape, FitsStep, Step, class_of, class_of_shape, ends_all, field_leaf, fits_shape, follow, is_closed, is_sound_spare, is_sound_step, lists, shape_leaf, step_leaf, steps_leaf}
use Rattle.uefi_node_steps.specs.Table.{are_alike, base_of, behind, head_of, is_omitted, lead, number_of_shape, refuses, reject, shapes_differ, strip}
use Rattle.uefi_node_steps.specs.declared.steps.Expected.{Expected}
use Rattle.uefi_node_steps.specs.declared.steps.Expected.TheVariants as expected
use Rattle.uefi_node_steps.specs.declared.steps.Field.{Field as FieldOf}
use Rattle.uefi_node_steps.specs.declared.steps.Shape.{Shape}
use Rattle.uefi_node_steps.specs.declared.steps.Shape.TheVariants.{Hexadecimal, Marked, Decimal, OrDefault, Next, Forth, Back, BaseForth, BaseBack, Apart, Dashed, Guid, Ipv4, Ipv6, Eisa, Word}
use Rattle.uefi_node_steps.specs.declared.steps.StepOf.TheVariants.{Literal, Field, Data, Many}
use Rattle.uefi_node_steps.specs.declared.steps.Stop.{Stop}
use Rattle.uefi_device_nodes.specs.FieldTexts.{hex_two}
use Rattle.uefi_device_nodes.proofs.GuidTexts.{two_digits}
use Rattle.std.specs.Fmt.{digit_glyph}
use Rattle.uefi_node_steps.proofs.DataLaws.{are_small, many_hex}
use Rattle.uefi_node_steps.proofs.Numbers.{base_none}
use Rattle.uefi_node_steps.proofs.FieldLaws.{field_keeps, step_keeps}
use Rattle.uefi_node_steps.proofs.ItemLaws.{lists_commas, lists_keep}
use Rattle.uefi_node_steps.proofs.LeafLaws.{no_blank}
use Rattle.uefi_node_steps.proofs.Combinations.{if_case, no_is}
use Rattle.uefi_node_steps.proofs.ShortAddresses.{stops_at_end}
use Rattle.uefi_node_steps.proofs.StepLaws.{closed_ends, follows}
use Rattle.uefi_node_steps.proofs.WordLaws.{Fails, fails}

-- a reading that stops
abbrev pub Stops : {A : Type 0} → Result A Stop → Type 0
Stops r = (stop : Stop) × (r ≡ Err stop)

pub stops_next : {A B : Type 0} (r : Result A Stop) (f : A → Result B Stop) → Stops r → Stops (r >>= f)
stops_next r f s = (s.0, ap (λ r. r >>= f) s.1)

some_none : {A : Type 0} (x : A) → Some x ≡ None → ⊥
some_none x e = cc

fails_stop : (r : Read (List ℕ)) → Fails r → Stops r
fails_stop (Err stop) f = (stop, refl)
fails_stop (Ok read) f = absurd (some_none _ (f 0 None))

-- a value, and then what stops
module _ {V : Type 0} (a : Leaf V) (b : Leaf (List V)) (text : List ℕ) where
  first_stops : Stops (a.read text) → Stops ((both a b).read text)
  first_stops s = stops_next (a.read text) _ s

  then_stops : (v : V) (rest : List ℕ) → a.read text ≡ Ok (v, rest) → Stops (b.read rest) → Stops ((both a b).read text)
  then_stops v rest e s = subst (λ (r : Read V). Stops {A = List V × List ℕ} (r >>= λ v. b.read v.1 >>= λ vs. Ok (v.0 ∷ vs.0, vs.1))) (sym e) (stops_next (b.read rest) _ s)

-- literals at letters that are known
spare_same : (wanted : List ℕ) (d : ℕ) (ds rest : List ℕ) → not (is_blank d) ≡ true → is_spare wanted (past_blanks (d ∷ (ds ++ rest))) ≡ is_spare wanted (d ∷ ds)
spare_same wanted d ds rest b = ap (λ t. is_spare wanted t) (no_blank d (ds ++ rest) b)

no_spare : (wanted : List ℕ) → is_spare wanted [] ≡ true → ⊥
no_spare wanted e = by (and_parts (is_comma wanted) false e).1
  where
    by : false ≡ true → ⊥
    by e = cc

literal_skips : (wanted known rest : List ℕ) → is_spare wanted known ≡ true → have_no_blank known ≡ true → (literal wanted).read (known ++ rest) ≡ Ok ([], known ++ rest)
literal_skips wanted [] rest s b = absurd (no_spare wanted s)
literal_skips wanted (d ∷ ds) rest s b = cond-true _ _ _ (spare_same wanted d ds rest (and_parts (not (is_blank d)) (have_no_blank ds) b).0 ∙ s)

literal_stops : (wanted known rest : List ℕ) → is_spare wanted known ≡ false → clash wanted known ≡ true → have_no_blank known ≡ true → Stops ((literal wanted).read (known ++ rest))
literal_stops [] known rest s c b = cc
literal_stops (w ∷ ws) [] rest s c b = cc
literal_stops (w ∷ ws) (d ∷ ds) rest s c b =
    let stop = fails_stop _ (fails (w ∷ ws) (d ∷ ds) rest c b) in
    (stop.0, cond-false _ _ _ (spare_same (w ∷ ws) d ds rest (and_parts (not (is_blank d)) (have_no_blank ds) b).0 ∙ s) ∙ stop.1)

-- the letters after those of a literal
record Left (wanted letters rest : List ℕ) (test : List ℕ → Bool) : Type 0 where
  left : List ℕ
  passes : test left ≡ true
  blanks : have_no_blank left ≡ true
  read : letters_read wanted (letters ++ rest) ≡ Ok ([], left ++ rest)

letter_more : (c d : ℕ) (cs rest : List ℕ) → eqb (to_ascii_uppercase c) (to_ascii_uppercase d) ≡ true → not (is_blank d) ≡ true
    → letters_read (c ∷ cs) (d ∷ rest) ≡ letters_read cs rest
letter_more c d cs rest e b = rw (no_blank d rest b, e) refl

strip_read : (wanted letters rest : List ℕ) (test : List ℕ → Bool) → strip wanted letters test ≡ true → have_no_blank letters ≡ true → Left wanted letters rest test
strip_read [] letters rest test s b = record { left = letters; passes = s; blanks = b; read = refl }
strip_read (c ∷ cs) [] rest test s b = cc
strip_read (c ∷ cs) (d ∷ ds) rest test s b =
    let same = and_parts (eqb (to_ascii_uppercase c) (to_ascii_uppercase d)) (strip cs ds test) s in
    let blanks = and_parts (not (is_blank d)) (have_no_blank ds) b in
    let others = strip_read cs ds rest test same.1 blanks.1 in
    record { left = others.left; passes = others.passes; blanks = others.blanks; read = letter_more c d cs (ds ++ rest) same.0 blanks.0 ∙ others.read }

strip_spare : (wanted letters head rest : List ℕ) (test : List ℕ → Bool) → is_spare wanted (letters ++ head) ≡ false → strip wanted letters test ≡ true → have_no_blank letters ≡ true
    → is_spare wanted (past_blanks (letters ++ rest)) ≡ false
strip_spare [] letters head rest test n s b = refl
strip_spare (c ∷ cs) [] head rest test n s b = cc
strip_spare (c ∷ cs) (d ∷ ds) head rest test n s b = spare_same (c ∷ cs) d ds rest (and_parts (not (is_blank d)) (have_no_blank ds) b).0 ∙ n

-- a field at a letter that begins no value of its shape
not_zero : (c : ℕ) → nat_lt (digit_of (to_ascii_uppercase c)) 10 ≡ false → eqb c 48 ≡ false
not_zero c e = by (eqb c 48) refl
  where
    by : (b : Bool) → eqb c 48 ≡ b → b ≡ false
    by false z = refl
    by true z = subst (λ (c : ℕ). nat_lt (digit_of (to_ascii_uppercase c)) 10 ≡ false → true ≡ false) (sym (eqb-true c 48 z)) (λ e. e) e

no_base : (c : ℕ) (cs : List ℕ) → eqb c 48 ≡ false → after_base (c ∷ cs) ≡ None
no_base c [] e = refl
no_base c (d ∷ cs) e = rw e refl

module _ (c : ℕ) (cs : List ℕ) (blank : not (is_blank c) ≡ true) where
  number_none : (limit : ℕ) → nat_lt (digit_of (to_ascii_uppercase c)) 10 ≡ false → any_number limit (past_blanks (c ∷ cs)) ≡ None
  number_none limit e = ap (any_number limit) (no_blank c cs blank) ∙ rw (no_base c cs (not_zero c e), e) refl

  number_stops : (limit : ℕ) (what : Expected) → nat_lt (digit_of (to_ascii_uppercase c)) 10 ≡ false → Stops (expect what (c ∷ cs) (any_number limit (past_blanks (c ∷ cs))))
  number_stops limit what e = (stop_at (c ∷ cs) what, ap (expect what (c ∷ cs)) (number_none limit e))

  refuse_stops : (shape : Shape) (width : ℕ) → refuses shape c ≡ true → Stops ((shape_leaf shape width).read (c ∷ cs))
  refuse_stops Hexadecimal width r = stops_next _ _ (number_stops _ _ (no_is _ r))
  refuse_stops Marked width r = stops_next _ _ (if_case Stops (two_decimals (past_blanks (c ∷ cs))) _ _ (λ e. (_, refl)) (λ e. number_stops _ _ (no_is _ r)))
  refuse_stops Decimal width r = stops_next _ _ (number_stops _ _ (no_is _ r))
  refuse_stops Next width r = stops_next _ _ (stops_next _ _ (stops_next _ _ (number_stops _ _ (no_is _ r))))
  refuse_stops Ipv4 width r = stops_next _ _ (stops_next _ _ (number_stops _ _ (no_is _ r)))
  refuse_stops Ipv6 width r = subst (λ (c : ℕ). Stops (ipv6.read (c ∷ cs))) (sym (eqb-true c 41 r)) (stops_at_end cs)
  refuse_stops OrDefault width r = cc
  refuse_stops Forth width r = cc
  refuse_stops Back width r = cc
  refuse_stops BaseForth width r = cc
  refuse_stops BaseBack width r = cc
  refuse_stops (Apart letter) width r = cc
  refuse_stops Dashed width r = cc
  refuse_stops Guid width r = cc
  refuse_stops Eisa width r = cc
  refuse_stops (Word words) width r = cc

-- a field that people leave out, and a field that they do not leave out
module _ (f : FieldOf) where
  spared_text : (spare : Option (List ℕ)) (leaf : ByteLeaf) (v : List ℕ) → (spared spare leaf).text v ≡ leaf.text v
  spared_text None leaf v = refl
  spared_text (Some spare) leaf v = refl

  field_skips : (c : ℕ) (cs : List ℕ) → not (is_blank c) ≡ true → is_omitted f c ≡ true → (v : List ℕ) × ((field_leaf f).read (c ∷ cs) ≡ Ok (v, c ∷ cs))
  field_skips c cs b o = by f.spare o
    where
      by : (spare : Option ℕ) → is_some spare && eqb c 41 ≡ true → (v : List ℕ) × ((spared (option_map (replicate f.width) spare) (shape_leaf f.shape f.width)).read (c ∷ cs) ≡ Ok (v, c ∷ cs))
      by None o = cc
      by (Some spare) o = (replicate f.width spare, cond-true _ _ _ (ap (λ t. is_spare (codes ",") t) (no_blank c cs b) ∙ o))

  field_stops : (c : ℕ) (cs : List ℕ) → not (is_blank c) ≡ true → is_omitted f c ≡ false → refuses f.shape c ≡ true → Stops ((field_leaf f).read (c ∷ cs))
  field_stops c cs b o r = by f.spare o (refuse_stops c cs b f.shape f.width r)
    where
      by : (spare : Option ℕ) → is_some spare && eqb c 41 ≡ false → Stops ((shape_leaf f.shape f.width).read (c ∷ cs))
          → Stops ((spared (option_map (replicate f.width) spare) (shape_leaf f.shape f.width)).read (c ∷ cs))
      by None o s = s
      by (Some spare) o s = (s.0, cond-false _ _ _ (ap (λ t. is_spare (codes ",") t) (no_blank c cs b) ∙ o) ∙ s.1)

-- fields that have the same texts
shape_with : ℕ → Shape
shape_with n = if eqb n 1 then Hexadecimal else if eqb n 2 then Decimal else if eqb n 3 then Next else if eqb n 4 then Forth else if eqb n 5 then Back
    else if eqb n 6 then BaseForth else if eqb n 7 then BaseBack else if eqb n 8 then Guid else if eqb n 9 then Ipv4 else if eqb n 10 then Ipv6 else if eqb n 11 then Eisa else Marked

numbered : (shape : Shape) → not (eqb (number_of_shape shape) 0) ≡ true → shape_with (number_of_shape shape) ≡ shape
unfolding shape_with
numbered Hexadecimal e = refl
numbered Marked e = refl
numbered Decimal e = refl
numbered OrDefault e = cc
numbered Next e = refl
numbered Forth e = refl
numbered Back e = refl
numbered BaseForth e = refl
numbered BaseBack e = refl
numbered (Apart letter) e = cc
numbered Dashed e = cc
numbered Guid e = refl
numbered Ipv4 e = refl
numbered Ipv6 e = refl
numbered Eisa e = refl
numbered (Word words) e = cc

record Alike (f g : FieldOf) : Type 0 where
  shape : g.shape ≡ f.shape
  width : g.width ≡ f.width

alike : (f g : FieldOf) → are_alike f g ≡ true → Alike f g
alike f g e =
    let some = and_parts (not (eqb (number_of_shape f.shape) 0)) _ e in
    let same = and_parts (eqb (number_of_shape f.shape) (number_of_shape g.shape)) (eqb f.width g.width) some.1 in
    let numbers = eqb-true (number_of_shape f.shape) (number_of_shape g.shape) same.0 in
    record {
      shape = sym (numbered g.shape (ap (λ (n : ℕ). not (eqb n 0)) (sym numbers) ∙ some.0)) ∙ ap shape_with (sym numbers) ∙ numbered f.shape some.0;
      width = sym (eqb-true f.width g.width same.1);
    }

-- what a field reads where the other is printed
alike_reads : (f g : FieldOf) (size : ℕ) → is_sound_step size (Field f) ≡ true → Alike f g → (v rest : List ℕ) → FitsShape g.shape g.width v → ends_at (class_of_shape g.shape) rest ≡ true
    → (field_leaf f).read ((field_leaf g).text v ++ rest) ≡ Ok (v, rest)
alike_reads f g size s is v rest fits e =
    let parts = and_parts _ _ (and_parts _ _ s).1 in
    ap (λ t. (field_leaf f).read (t ++ rest)) (spared_text g (option_map (replicate g.width) g.spare) (shape_leaf g.shape g.width) v
    ∙ (λ i. (shape_leaf (is.shape i) (is.width i)).text v) ∙ sym (spared_text f (option_map (replicate f.width) f.spare) (shape_leaf f.shape f.width) v))
    ∙ (field_keeps f parts.0 parts.1).again v rest (subst (λ shape. FitsShape shape f.width v) is.shape (subst (λ (width : ℕ). FitsShape g.shape width v) is.width fits))
    (subst (λ shape. ends_at (class_of_shape shape) rest ≡ true) is.shape e)

-- the steps after a literal
abbrev pub text_of : List Step → List (List ℕ) → List ℕ
text_of steps vs = (steps_leaf (step_leaf lists) steps).text vs

abbrev pub Values : List Step → List (List ℕ) → Type 0
Values steps vs = FitSteps (FitsStep FitsLists) steps vs

pub led : (P : List ℕ → Type 0) (steps : List Step) (vs : List (List ℕ)) (rest : List ℕ) → Values steps vs → ((ws : List (List ℕ)) → Values (behind steps) ws
    → P (lead steps ++ (text_of (behind steps) ws ++ rest)))
    → P (text_of steps vs ++ rest)
led P [] vs rest f h = h vs f
led P (Literal letters ∷ steps) [] rest f h = absurd f
led P (Literal letters ∷ steps) (v ∷ vs) rest f h = subst P (sym (append_assoc letters.now (text_of steps vs) rest)) (h vs f.1)
led P (Field f ∷ steps) vs rest g h = h vs g
led P (Data encoding ∷ steps) vs rest f h = h vs f
led P (Many items ∷ steps) vs rest f h = h vs f

-- what is known of steps that are printed
pub record Sound (size : ℕ) (steps : List Step) : Type 0 where
  pub sound : list_all (is_sound_step size) steps ≡ true
  pub ends : ends_all is_closed steps ≡ true

pub sound_behind : (size : ℕ) (steps : List Step) → Sound size steps → Sound size (behind steps) × (have_no_blank (lead steps) ≡ true)
sound_behind size [] s = (s, refl)
sound_behind size (Literal letters ∷ steps) s =
    let sound = and_parts (have_no_blank letters.now) (list_all (is_sound_step size) steps) s.sound in
    (record { sound = sound.1; ends = (and_parts (follow is_closed (class_of (Literal letters)) steps) (ends_all is_closed steps) s.ends).1 }, sound.0)
sound_behind size (Field f ∷ steps) s = (s, refl)
sound_behind size (Data encoding ∷ steps) s = (s, refl)
sound_behind size (Many items ∷ steps) s = (s, refl)

-- the letters that are known of what is printed
blanks_both : (letters more : List ℕ) → have_no_blank letters ≡ true → have_no_blank more ≡ true → have_no_blank (letters ++ more) ≡ true
blanks_both [] more b m = m
blanks_both (c ∷ cs) more b m = let parts = and_parts (not (is_blank c)) (have_no_blank cs) b in and_from _ _ parts.0 (blanks_both cs more parts.1 m)

record Base (shape : Shape) (width : ℕ) (v : List ℕ) : Type 0 where
  blanks : have_no_blank (base_of shape) ≡ true
  more : List ℕ
  is : (shape_leaf shape width).text v ≡ base_of shape ++ more

base : (shape : Shape) (width : ℕ) (v : List ℕ) → Base shape width v
base Hexadecimal width v = record { blanks = refl; more = _; is = refl }
base Marked width v = record { blanks = refl; more = _; is = refl }
base Decimal width v = record { blanks = refl; more = _; is = refl }
base OrDefault width v = record { blanks = refl; more = _; is = refl }
base Next width v = record { blanks = refl; more = _; is = refl }
base Forth width v = record { blanks = refl; more = _; is = refl }
base Back width v = record { blanks = refl; more = _; is = refl }
base BaseForth width v = record { blanks = refl; more = _; is = refl }
base BaseBack width v = record { blanks = refl; more = _; is = refl }
base (Apart letter) width v = record { blanks = refl; more = _; is = refl }
base Dashed width v = record { blanks = refl; more = _; is = refl }
base Guid width v = record { blanks = refl; more = _; is = refl }
base Ipv4 width v = record { blanks = refl; more = _; is = refl }
base Ipv6 width v = record { blanks = refl; more = _; is = refl }
base Eisa width v = record { blanks = refl; more = _; is = refl }
base (Word words) width v = record { blanks = refl; more = _; is = refl }

record Head (others : List Step) (text : List ℕ) : Type 0 where
  blanks : have_no_blank (head_of others) ≡ true
  more : List ℕ
  is : text ≡ head_of others ++ more

head : (others : List Step) (vs : List (List ℕ)) (rest : List ℕ) → Values others vs → Head others (text_of others vs ++ rest)
head [] vs rest f = record { blanks = refl; more = _; is = refl }
head (Literal letters ∷ others) vs rest f = record { blanks = refl; more = _; is = refl }
head (Data encoding ∷ others) vs rest f = record { blanks = refl; more = _; is = refl }
head (Many items ∷ others) vs rest f = record { blanks = refl; more = _; is = refl }
head (Field g ∷ others) [] rest f = absurd f
head (Field g ∷ others) (v ∷ vs) rest f =
    let first = base g.shape g.width v in
    record {
      blanks = first.blanks;
      more = first.more ++ (text_of others vs ++ rest);
      is = append_assoc ((field_leaf g).text v) (text_of others vs) rest
          ∙ ap (λ (t : List ℕ). t ++ (text_of others vs ++ rest)) (spared_text g (option_map (replicate g.width) g.spare) (shape_leaf g.shape g.width) v ∙ first.is)
          ∙ append_assoc (base_of g.shape) first.more (text_of others vs ++ rest);
    }

-- an address of IP version 4 is not read where one of version 6 is printed
record IsHex (letter : ℕ) : Type 0 where
  no_space : not (is_blank letter) ≡ true
  no_x : eqb (to_ascii_uppercase letter) 88 ≡ false
  no_dot : eqb (to_ascii_uppercase 46) (to_ascii_uppercase letter) ≡ false

glyph_hex : (d : ℕ) → d < 16 → IsHex (digit_glyph true d)
glyph_hex d l = record { no_space = grind (arith, nat_tests); no_x = grind (arith, nat_tests); no_dot = grind (arith, nat_tests) }

abbrev StopsAtDot : Option (ℕ × List ℕ) → Type 0
StopsAtDot None = Unit {0}
StopsAtDot (Some read) = Stops (letters_read (codes ".") read.1)

dot_at : (d : ℕ) (rest : List ℕ) → IsHex d → Stops (letters_read (codes ".") (d ∷ rest))
dot_at d rest is = (stop_at (d ∷ rest) (expected.Letter 46), rw (no_blank d rest is.no_space, is.no_dot) refl)

digits_at_dot : (ds more : List ℕ) (n : ℕ) → Each IsHex ds → StopsAtDot (digits_read 10 256 n (ds ++ 58 ∷ more))
digits_at_dot [] more n h = (stop_at (58 ∷ more) (expected.Letter 46), refl)
digits_at_dot (d ∷ ds) more n h = if_case StopsAtDot (nat_lt (digit_of (to_ascii_uppercase d)) 10) _ _
    (λ t. if_case StopsAtDot (nat_lt (n * 10 + digit_of (to_ascii_uppercase d)) 256) _ _ (λ s. digits_at_dot ds more (n * 10 + digit_of (to_ascii_uppercase d)) h.1) (λ s. tt))
    (λ t. dot_at d (ds ++ 58 ∷ more) h.0)

abbrev low_byte : ℕ × List ℕ → Read (List ℕ)
low_byte n = Ok (low_bytes 1 n.0, n.1)

abbrev other_octets : List ℕ × List ℕ → Read (List ℕ)
other_octets v = (behind_each (codes ".") 1 (in_bytes 1 (decimal 256)) 3).read v.1 >>= λ vs. Ok (v.0 ++ vs.0, vs.1)

digits_stop : (r : Option (ℕ × List ℕ)) (what : Expected) (text : List ℕ) → StopsAtDot r → Stops ((expect what text r >>= low_byte) >>= other_octets)
digits_stop None what text s = (stop_at text what, refl)
digits_stop (Some n) what text s = stops_next _ _ (stops_next _ _ (stops_next _ _ s))

hex_digits : (b : ℕ) (rest : List ℕ) → b < 256 → Each IsHex rest → Each IsHex (hex_two b ++ rest)
hex_digits b rest l h = subst (λ (t : List ℕ). Each IsHex (t ++ rest)) (sym (two_digits b l)) (glyph_hex (b / 16) (omega arith), (glyph_hex (b % 16) (omega arith), h))

all_hex : (bytes : List ℕ) → are_small bytes → Each IsHex (many_text pair bytes)
all_hex [] f = tt
all_hex (b ∷ bytes) f = hex_digits b (many_text pair bytes) f.0 (all_hex bytes f.1)

group_stops : (a b : ℕ) (more : List ℕ) → a < 256 → b < 256 → Stops (ipv4.read ((many_text pair (a ∷ b ∷ [])) ++ 58 ∷ more))
group_stops a b more la lb =
    let hex = all_hex (a ∷ b ∷ []) (la, (lb, tt)) in
    let first : ℕ = digit_glyph true (a / 16) in
    let second : ℕ = digit_glyph true (a % 16) in
    let others : List ℕ = many_text pair (b ∷ []) ++ 58 ∷ more in
    let one = glyph_hex (a / 16) (omega arith) in
    let two = glyph_hex (a % 16) (omega arith) in
    let is : many_text pair (a ∷ b ∷ []) ++ 58 ∷ more ≡ first ∷ second ∷ others = append_assoc (hex_two a) (many_text pair (b ∷ [])) (58 ∷ more) ∙ ap (λ (t : List ℕ). t ++ others) (two_digits a la) in
    let none : any_number 256 (past_blanks (first ∷ second ∷ others)) ≡ number_read 10 256 (first ∷ second ∷ others) =
    ap (any_number 256) (no_blank first (second ∷ others) one.no_space) ∙ ap (by_base 256 (first ∷ second ∷ others)) (base_none first second others two.no_x) in
    let dot : StopsAtDot (number_read 10 256 (first ∷ second ∷ others)) = if_case StopsAtDot (has_digit 10 (first ∷ second ∷ others)) _ _
    (λ t. subst (λ t. StopsAtDot (digits_read 10 256 0 t)) is (digits_at_dot (many_text pair (a ∷ b ∷ [])) more 0 hex)) (λ t. tt) in
    subst (λ t. Stops (ipv4.read t)) (sym is) (digits_stop (any_number 256 (past_blanks (first ∷ second ∷ others))) (expected.Number 255) (first ∷ second ∷ others) (subst StopsAtDot (sym none) dot))

ipv4_stops : (v rest : List ℕ) → IsBytes 16 v → Stops (ipv4.read (ipv6.text v ++ rest))
ipv4_stops [] rest f = absurd (omega (arith, f.0))
ipv4_stops (a ∷ []) rest f = absurd (omega (arith, f.0))
ipv4_stops (a ∷ b ∷ v) rest f = subst (λ t. Stops (ipv4.read ((t ++ (behind_each (codes ":") 2 (pairs 2) 7).text v) ++ rest))) (many_hex (a ∷ b ∷ []))
    (subst (λ t. Stops (ipv4.read t)) (sym (append_assoc (many_text pair (a ∷ b ∷ [])) ((behind_each (codes ":") 2 (pairs 2) 7).text v) rest)) (group_stops a b _ f.1.0 f.1.1.0))

ipv4_field : (shape : Shape) (width : ℕ) (spare : Option ℕ) (text : List ℕ) → shape ≡ Ipv4 → is_sound_spare shape spare ≡ true → Stops (ipv4.read text)
    → Stops ((spared (option_map (replicate width) spare) (shape_leaf shape width)).read text)
ipv4_field shape width None text e s stops = subst (λ shape. Stops ((shape_leaf shape width).read text)) (sym e) stops
ipv4_field shape width (Some spare) text e s stops = absurd (none (subst (λ shape. is_sound_spare shape (Some spare) ≡ true) e s))
  where
    none : false ≡ true → ⊥
    none e = cc

record Parted (f g : FieldOf) : Type 0 where
  one : f.shape ≡ Ipv4
  other : g.shape ≡ Ipv6

parted : (f g : FieldOf) → shapes_differ f.shape g.shape ≡ true → Parted f g
unfolding shape_with
parted f g e =
    let both = and_parts (eqb (number_of_shape f.shape) 9) (eqb (number_of_shape g.shape) 10) e in
    let nine = eqb-true (number_of_shape f.shape) 9 both.0 in
    let ten = eqb-true (number_of_shape g.shape) 10 both.1 in
    record {
      one = sym (numbered f.shape (ap (λ (n : ℕ). not (eqb n 0)) nine)) ∙ ap shape_with nine;
      other = sym (numbered g.shape (ap (λ (n : ℕ). not (eqb n 0)) ten)) ∙ ap shape_with ten;
    }

-- steps do not read what other steps print
module _ (size other_size : ℕ) where
  abbrev pub Rejects : List Step → Type 0
  Rejects steps = (letters : List ℕ) (others : List Step) (vs : List (List ℕ)) (rest : List ℕ) → have_no_blank letters ≡ true → Sound other_size others → Values others vs
      → reject steps letters others ≡ true → Stops ((steps_leaf (step_leaf lists) steps).read (letters ++ (text_of others vs ++ rest)))

  literal_case : (wanted : List ℕ) (steps : List Step) → Rejects steps → (letters : List ℕ) (others : List Step) (vs : List (List ℕ)) (rest : List ℕ) → have_no_blank letters ≡ true
      → Sound other_size others → Values others vs
      → (if is_spare wanted (letters ++ head_of others) then reject steps letters others
      else (clash wanted (letters ++ head_of others) || strip wanted letters (λ left. reject steps left others))) ≡ true
      → Stops ((both (literal wanted) (steps_leaf (step_leaf lists) steps)).read (letters ++ (text_of others vs ++ rest)))
  literal_case wanted steps more letters others vs rest b s f e = by (is_spare wanted (letters ++ head_of others)) refl e
    where
      h : Head others (text_of others vs ++ rest)
      h = head others vs rest f

      known : letters ++ (text_of others vs ++ rest) ≡ (letters ++ head_of others) ++ h.more
      known = ap (λ (t : List ℕ). letters ++ t) h.is ∙ sym (append_assoc letters (head_of others) h.more)

      blanks : have_no_blank (letters ++ head_of others) ≡ true
      blanks = blanks_both letters (head_of others) b h.blanks

      stripped : is_spare wanted (letters ++ head_of others) ≡ false → strip wanted letters (λ left. reject steps left others) ≡ true
          → Stops ((both (literal wanted) (steps_leaf (step_leaf lists) steps)).read (letters ++ (text_of others vs ++ rest)))
      stripped n t =
          let left = strip_read wanted letters (text_of others vs ++ rest) (λ left. reject steps left others) t b in
          then_stops (literal wanted) (steps_leaf (step_leaf lists) steps) (letters ++ (text_of others vs ++ rest)) [] (left.left ++ (text_of others vs ++ rest))
          (cond-false _ _ _ (strip_spare wanted letters (head_of others) (text_of others vs ++ rest) (λ left. reject steps left others) n t b) ∙ left.read)
          (more left.left others vs rest left.blanks s f left.passes)

      clashing : is_spare wanted (letters ++ head_of others) ≡ false → (c : Bool) → clash wanted (letters ++ head_of others) ≡ c → c || strip wanted letters (λ left. reject steps left others) ≡ true
          → Stops ((both (literal wanted) (steps_leaf (step_leaf lists) steps)).read (letters ++ (text_of others vs ++ rest)))
      clashing n true c e = first_stops (literal wanted) (steps_leaf (step_leaf lists) steps) (letters ++ (text_of others vs ++ rest))
          (subst (λ t. Stops ((literal wanted).read t)) (sym known) (literal_stops wanted (letters ++ head_of others) h.more n c blanks))
      clashing n false c e = stripped n e

      by : (b : Bool) → is_spare wanted (letters ++ head_of others) ≡ b
          → cond b (reject steps letters others) (clash wanted (letters ++ head_of others) || strip wanted letters (λ left. reject steps left others)) ≡ true
          → Stops ((both (literal wanted) (steps_leaf (step_leaf lists) steps)).read (letters ++ (text_of others vs ++ rest)))
      by true is e = then_stops (literal wanted) (steps_leaf (step_leaf lists) steps) (letters ++ (text_of others vs ++ rest)) [] (letters ++ (text_of others vs ++ rest))
          (subst (λ t. (literal wanted).read t ≡ Ok ([], t)) (sym known) (literal_skips wanted (letters ++ head_of others) h.more is blanks)) (more letters others vs rest b s f e)
      by false is e = clashing is (clash wanted (letters ++ head_of others)) refl e

  letter_case : (g : FieldOf) (steps : List Step) → Rejects steps → (c : ℕ) (letters : List ℕ) (others : List Step) (vs : List (List ℕ)) (rest : List ℕ) → have_no_blank (c ∷ letters) ≡ true
      → Sound other_size others → Values others vs → (if is_omitted g c then reject steps (c ∷ letters) others else refuses g.shape c) ≡ true
      → Stops ((both (field_leaf g) (steps_leaf (step_leaf lists) steps)).read (c ∷ (letters ++ (text_of others vs ++ rest))))
  letter_case g steps more c letters others vs rest b s f e = by (is_omitted g c) refl e
    where
      blank : not (is_blank c) ≡ true
      blank = (and_parts (not (is_blank c)) (have_no_blank letters) b).0

      by : (o : Bool) → is_omitted g c ≡ o → cond o (reject steps (c ∷ letters) others) (refuses g.shape c) ≡ true
          → Stops ((both (field_leaf g) (steps_leaf (step_leaf lists) steps)).read (c ∷ (letters ++ (text_of others vs ++ rest))))
      by true o e =
          let skip = field_skips g c (letters ++ (text_of others vs ++ rest)) blank o in
          then_stops (field_leaf g) (steps_leaf (step_leaf lists) steps) (c ∷ (letters ++ (text_of others vs ++ rest))) skip.0 (c ∷ (letters ++ (text_of others vs ++ rest))) skip.1 (more
          (c ∷ letters) others vs rest b s f e)
      by false o e = first_stops (field_leaf g) (steps_leaf (step_leaf lists) steps) (c ∷ (letters ++ (text_of others vs ++ rest))) (field_stops g c _ blank o e)

  field_case : (f g : FieldOf) (steps : List Step) → Rejects steps → is_sound_step size (Field f) ≡ true → (others : List Step) (v : List ℕ) (vs : List (List ℕ)) (rest : List ℕ)
      → Sound other_size (Field g ∷ others) → Values (Field g ∷ others) (v ∷ vs) → shapes_differ f.shape g.shape || (are_alike f g && reject steps (lead others) (behind others)) ≡ true
      → Stops ((both (field_leaf f) (steps_leaf (step_leaf lists) steps)).read (((field_leaf g).text v ++ text_of others vs) ++ rest))
  field_case f g steps more s others v vs rest is fits e = subst (λ t. Stops ((both (field_leaf f) (steps_leaf (step_leaf lists) steps)).read t)) (sym (append_assoc ((field_leaf g).text v)
      (text_of others vs) rest))
      (by (shapes_differ f.shape g.shape) refl e)
    where
      sound_f : (fits_shape f.shape f.width ≡ true) × (is_sound_spare f.shape f.spare ≡ true)
      sound_f = and_parts (fits_shape f.shape f.width) (is_sound_spare f.shape f.spare) (and_parts (nat_le (f.place + f.width) size) _ s).1

      sounds : (is_sound_step other_size (Field g) ≡ true) × (list_all (is_sound_step other_size) others ≡ true)
      sounds = and_parts (is_sound_step other_size (Field g)) (list_all (is_sound_step other_size) others) is.sound

      edges : (follow is_closed (class_of (Field g)) others ≡ true) × (ends_all is_closed others ≡ true)
      edges = and_parts (follow is_closed (class_of (Field g)) others) (ends_all is_closed others) is.ends

      sixteen : g.shape ≡ Ipv6 → IsBytes 16 v
      sixteen e =
          let fit = subst (λ shape. fits_shape shape g.width
          ≡ true) e (and_parts (fits_shape g.shape g.width) (is_sound_spare g.shape g.spare) (and_parts (nat_le (g.place + g.width) other_size) _ sounds.0).1).0 in
          subst (λ (n : ℕ). IsBytes n v) (eqb-true g.width 16 fit) (subst (λ shape. FitsShape shape g.width v) e fits.0)

      ends : ends_at (class_of_shape g.shape) (text_of others vs ++ rest) ≡ true
      ends = follows lists FitsLists other_size (step_keeps lists FitsLists lists_keep other_size) lists_commas is_closed (λ rest. true) (λ class rest c e. closed_ends class rest c)
          (class_of_shape g.shape) others vs rest fits.1 edges.0 refl

      by : (d : Bool) → shapes_differ f.shape g.shape ≡ d → d || (are_alike f g && reject steps (lead others) (behind others)) ≡ true
          → Stops ((both (field_leaf f) (steps_leaf (step_leaf lists) steps)).read ((field_leaf g).text v ++ (text_of others vs ++ rest)))
      by true d e =
          let p = parted f g d in
          first_stops (field_leaf f) (steps_leaf (step_leaf lists) steps) ((field_leaf g).text v ++ (text_of others vs ++ rest))
          (subst (λ t. Stops ((field_leaf f).read (t ++ (text_of others vs ++ rest)))) (sym (spared_text g (option_map (replicate g.width) g.spare) (shape_leaf g.shape g.width) v
          ∙ ap (λ shape. (shape_leaf shape g.width).text v) p.other))
          (ipv4_field f.shape f.width f.spare _ p.one sound_f.1 (ipv4_stops v (text_of others vs ++ rest) (sixteen p.other))))
      by false d e =
          let parts = and_parts (are_alike f g) (reject steps (lead others) (behind others)) e in
          let next = sound_behind other_size others (record { sound = sounds.1; ends = edges.1 }) in
          then_stops (field_leaf f) (steps_leaf (step_leaf lists) steps) ((field_leaf g).text v ++ (text_of others vs ++ rest)) v (text_of others vs ++ rest)
          (alike_reads f g size s (alike f g parts.0) v (text_of others vs ++ rest) fits.0 ends)
          (led (λ t. Stops ((steps_leaf (step_leaf lists) steps).read t)) others vs rest fits.1 (λ ws fit. more (lead others) (behind others) ws rest next.1 next.0 fit parts.1))

  pub reject_stops : (steps : List Step) → list_all (is_sound_step size) steps ≡ true → Rejects steps
  reject_stops [] s letters others vs rest b is fits e = cc
  reject_stops (Literal wanted ∷ steps) s letters others vs rest b is fits e =
      literal_case wanted.now steps (reject_stops steps (and_parts (is_sound_step size (Literal wanted)) (list_all (is_sound_step size) steps) s).1) letters others vs rest b is fits e
  reject_stops (Field f ∷ steps) s (c ∷ letters) others vs rest b is fits e =
      letter_case f steps (reject_stops steps (and_parts (is_sound_step size (Field f)) (list_all (is_sound_step size) steps) s).1) c letters others vs rest b is fits e
  reject_stops (Field f ∷ steps) s [] [] vs rest b is fits e = cc
  reject_stops (Field f ∷ steps) s [] (Literal letters ∷ others) vs rest b is fits e = cc
  reject_stops (Field f ∷ steps) s [] (Data encoding ∷ others) vs rest b is fits e = cc
  reject_stops (Field f ∷ steps) s [] (Many items ∷ others) vs rest b is fits e = cc
  reject_stops (Field f ∷ steps) s [] (Field g ∷ others) [] rest b is fits e = absurd fits
  reject_stops (Field f ∷ steps) s [] (Field g ∷ others) (v ∷ vs) rest b is fits e =
      let parts = and_parts (is_sound_step size (Field f)) (list_all (is_sound_step size) steps) s in
      field_case f g steps (reject_stops steps parts.1) parts.0 others v vs rest is fits e
  reject_stops (Data encoding ∷ steps) s letters others vs rest b is fits e = cc
  reject_stops (Many items ∷ steps) s letters others vs rest b is fits e = cc
