-- Nodes whose first bytes were decoded, and whose others are counted.
use Rattle.std.proofs.Common.{◌≡◌, ℕ, ◌+◌, ◌-◌, ◌<◌, ◌≤◌, ◌^◌, min, take, drop, Bool, true, false, true≢false, cond, leb, List, [], ◌∷◌, ◌++◌, length, length-append, refl, sym, ap, ◌∙◌, arith}
use Rattle.std.specs.Prelude.{Option, Some, None, is_some, option_and_then, ◌==◌, ◌&&◌}
use Rattle.std.specs.Option.{option_map}
use Rattle.std.proofs.lemmas.Bool.{le-leb, lt-leb}
use Rattle.std.proofs.Math.Seq.{take-append-add}
use Rattle.std.proofs.lemmas.List.{drop-take, drop_at, length-take-le, take_at}
use Rattle.uefi_device_nodes.specs.Rows.{Form}
use Rattle.uefi_device_nodes.specs.declared.node_table.rows.Tail.{Tail}
use Rattle.uefi_device_nodes.specs.declared.node_table.rows.Tail.TheVariants.{Nothing, Bytes, Text, Utf16, Name, Padded, Ids, Repeated}
use Rattle.uefi_device_nodes.specs.Nodes.{Node, node_with}
use Rattle.uefi_node_reader.specs.CountedBytes.{pushed_bytes, put_on}
use Rattle.uefi_node_reader.specs.FieldReading.{read_if}
use Rattle.uefi_node_reader.specs.TableReading.{added, first_of, form_place, kept, prints, tail_read}
use Rattle.uefi_node_reader.specs.ParsedNodes.{read_data, fitting}
use Rattle.uefi_node_reader.proofs.CountedBytes.{counted, first_shown, front_kept, whole_written}
use Rattle.uefi_node_reader.proofs.Digits.{some_pair}

fits_not : (read : List ℕ × List ℕ) → 0xfffb < length read.0 → fitting (Some read) ≡ None
fits_not read l = ap (λ (t : Bool). cond t (Some read) None) (lt-leb (length read.0) 0xfffb l)

fits : (read : List ℕ × List ℕ) → length read.0 ≤ 0xfffb → fitting (Some read) ≡ Some read
fits read l = ap (λ (t : Bool). cond t (Some read) None) (le-leb (length read.0) 0xfffb l)

module _ (start : List ℕ) (fixed : ℕ) (small : fixed ≤ 56) (room : length start ≡ 56) where
  front_size : length (take fixed start) ≡ fixed
  front_size = length-take-le fixed start (omega (arith, small, room))

  all_size : (bytes : List ℕ) → length (take fixed start ++ bytes) ≡ fixed + length bytes
  all_size bytes = length-append (take fixed start) bytes ∙ ap (λ (n : ℕ). n + length bytes) front_size

  -- more is read than a node may have
  pub tail_long : (o : Option (List ℕ × List ℕ)) (head : List ℕ) (len : ℕ) (rest : List ℕ)
      → Some ((head, len), rest) ≡ option_and_then (put_on (start, fixed)) o → 0xfffb < len
      → None ≡ fitting (option_and_then (added (take fixed start)) o)
  tail_long None head len rest e l = cc
  tail_long (Some read) head len rest e l =
      let same = some_pair ((head, len), rest) (pushed_bytes (start, fixed) read.0, read.1) e in
      let count : len ≡ min (fixed + length read.0) (2 ^ 64 - 1) =
      ap (λ (s : List ℕ × ℕ). s.1) same.0 ∙ counted read.0 start fixed (omega (arith, small)) in
      let size = all_size read.0 in
      sym (fits_not (take fixed start ++ read.0, read.1) (omega (arith, l, count, size)))

  -- a node is read
  pub record IsRead (o : Option (List ℕ × List ℕ)) (head : List ℕ) (len : ℕ) (rest : List ℕ) : Type 0 where
    pub some : is_some o ≡ true
    pub count : len ≡ length (take fixed head ++ read_data o)
    pub shown : take len head ≡ take 56 (take fixed head ++ read_data o)
    pub data_ : Some (take fixed head ++ read_data o, rest) ≡ fitting (option_and_then (added (take fixed start)) o)

  pub tail_fits : (o : Option (List ℕ × List ℕ)) (head : List ℕ) (len : ℕ) (rest : List ℕ)
      → Some ((head, len), rest) ≡ option_and_then (put_on (start, fixed)) o → len ≤ 0xfffb → IsRead o head len rest
  tail_fits None head len rest e l = cc
  tail_fits (Some read) head len rest e l =
      let same = some_pair ((head, len), rest) (pushed_bytes (start, fixed) read.0, read.1) e in
      let count : len ≡ min (fixed + length read.0) (2 ^ 64 - 1) =
      ap (λ (s : List ℕ × ℕ). s.1) same.0 ∙ counted read.0 start fixed (omega (arith, small)) in
      let exact : len ≡ fixed + length read.0 = omega (arith, l, count) in
      let size = all_size read.0 in
      let bytes : head ≡ (pushed_bytes (start, fixed) read.0).0 = ap (λ (s : List ℕ × ℕ). s.0) same.0 in
      let front : take fixed head ≡ take fixed start =
      ap (λ (x : List ℕ). take fixed x) bytes ∙ front_kept read.0 start fixed (omega (arith, small, room)) (omega (arith, exact, l)) in
      let shown : take len head ≡ take 56 (take fixed start ++ read.0) =
      (λ i. take (exact i) (bytes i)) ∙ first_shown read.0 start fixed (omega (arith, small, room)) (omega (arith, exact, l))
      ∙ ap (λ (n : ℕ). take n (take fixed start ++ read.0)) room in
      record {
        some = refl;
        count = exact ∙ sym size ∙ ap (λ (x : List ℕ). length (x ++ read.0)) (sym front);
        shown = shown ∙ ap (λ (x : List ℕ). take 56 (x ++ read.0)) (sym front);
        data_ = (λ i. Some (front i ++ read.0, same.1 i)) ∙ sym (fits (take fixed start ++ read.0, read.1) (omega (arith, l, exact, size)));
      }

-- only the first byte of what closes a tail counts
pub stop_alone : (tail : Tail) (close text : List ℕ) → tail_read tail (first_of close ∷ []) text ≡ tail_read tail close text
stop_alone Nothing close text = refl
stop_alone Bytes close text = refl
stop_alone Text close text = refl
stop_alone Utf16 close text = refl
stop_alone Name close text = refl
stop_alone Padded close text = refl
stop_alone Ids close text = refl
stop_alone (Repeated items) close text = refl

-- all data, written to as many places
pub tail_written : {A : Type 0} (bytes_of : A → List ℕ) (front places written head : List ℕ) (o : Option (List ℕ × List ℕ)) (len : ℕ) (r : Option (ℕ × A))
    → is_some o ≡ true → length places ≡ length (front ++ read_data o) → length places ≤ 2 ^ 64 - 1 → (written, len) ≡ pushed_bytes (places, 0) front
    → option_map (λ (x : ℕ × A). ((head, x.0), bytes_of x.1)) r ≡ option_and_then (put_on (written, len)) o → head ≡ front ++ read_data o
tail_written bytes_of front places written head None len r some size few first e = absurd (true≢false (sym some))
tail_written bytes_of front places written head (Some read) len None some size few first e = cc
tail_written bytes_of front places written head (Some read) len (Some x) some size few first e =
    let same = some_pair ((head, x.0), bytes_of x.1) (pushed_bytes (written, len) read.0, read.1) e in
    ap (λ (s : List ℕ × ℕ). s.0) (same.0 ∙ ap (λ (s : List ℕ × ℕ). pushed_bytes s read.0) first)
    ∙ whole_written front read.0 places size few

-- how many bytes a whole has
pub whole_count : (start head bytes : List ℕ) (len : ℕ) → (head, len) ≡ pushed_bytes (start, 0) bytes → len ≤ 0xfffb → len ≡ length bytes
whole_count start head bytes len e l =
    let count : len ≡ min (0 + length bytes) (2 ^ 64 - 1) = ap (λ (s : List ℕ × ℕ). s.1) e ∙ counted bytes start 0 (omega arith) in
    omega (arith, l, count)

pub whole_long : (start head bytes : List ℕ) (len : ℕ) → (head, len) ≡ pushed_bytes (start, 0) bytes → 0xfffb < len → leb (length bytes) 0xfffb ≡ false
whole_long start head bytes len e l =
    let count : len ≡ min (0 + length bytes) (2 ^ 64 - 1) = ap (λ (s : List ℕ × ℕ). s.1) e ∙ counted bytes start 0 (omega arith) in
    lt-leb (length bytes) 0xfffb (omega (arith, l, count))

-- what fits into a node
pub fitting_fits : (o : Option (List ℕ × List ℕ)) (x : List ℕ × List ℕ) → Some x ≡ fitting o → leb (length x.0) 0xfffb ≡ true
fitting_fits None x e = cc
fitting_fits (Some read) x e = by (leb (length read.0) 0xfffb) refl e
  where
    by : (t : Bool) → leb (length read.0) 0xfffb ≡ t → Some x ≡ cond t (Some read) None → leb (length x.0) 0xfffb ≡ true
    by true f h = ap (λ (y : List ℕ). leb (length y) 0xfffb) (some_pair x read h).0 ∙ f
    by false f h = cc

-- a node of a form that is read, if no more bytes are read than a node may have
pub kept-fitting : (all : List Form) (place : ℕ) (form : Form) (o : Option (List ℕ × List ℕ)) → kept all place form (fitting o) ≡ kept all place form o
kept-fitting all place form None = refl
kept-fitting all place form (Some read) = by (leb (length read.0) 0xfffb) refl
  where
    node : Node
    node = node_with form.kind form.sub_kind read.0

    found : Bool
    found = form_place (prints node) all == place

    by : (t : Bool) → leb (length read.0) 0xfffb ≡ t → kept all place form (cond t (Some read) None) ≡ read_if (found && leb (length read.0) 0xfffb) node read.1
    by true e = refl
    by false e = no found ∙ ap (λ (t : Bool). read_if (found && t) node read.1) (sym e)
      where
        no : (x : Bool) → None ≡ read_if (x && false) node read.1
        no true = refl
        no false = refl

-- a fixed part in place of another of as many bytes
pub record OtherFixed (found start bytes : List ℕ) (fixed len : ℕ) : Type 0 where
  pub front : take fixed (found ++ drop fixed start) ≡ found
  pub count : len ≡ length (take fixed (found ++ drop fixed start) ++ bytes)
  pub shown : take len (found ++ drop fixed start) ≡ take 56 (take fixed (found ++ drop fixed start) ++ bytes)

pub other_fixed : (found start bytes : List ℕ) (fixed len : ℕ) → fixed ≤ 56 → length start ≡ 56 → length found ≡ fixed
    → len ≡ length (take fixed start ++ bytes) → take len start ≡ take 56 (take fixed start ++ bytes) → OtherFixed found start bytes fixed len
other_fixed found start bytes fixed len small room size count shown =
    let old : List ℕ = take fixed start in
    let wide : length old ≡ fixed = front_size start fixed small room in
    let front : take fixed (found ++ drop fixed start) ≡ found = take_at found (drop fixed start) fixed size in
    let all : len ≡ fixed + length bytes = count ∙ all_size start fixed small room bytes in
    let past : ℕ = len - fixed in
    let others : take past (drop fixed start) ≡ take (56 - fixed) bytes =
    sym (drop-take fixed past start) ∙ ap (λ (n : ℕ). drop fixed (take n start)) {x = fixed + past} {y = len} (omega (arith, all))
    ∙ ap (drop fixed) shown ∙ ap (λ (n : ℕ). drop fixed (take n (old ++ bytes))) {x = 56} {y = fixed + (56 - fixed)} (omega (arith, small))
    ∙ drop-take fixed (56 - fixed) (old ++ bytes) ∙ ap (take (56 - fixed)) (drop_at old bytes fixed wide) in
    record {
      front = front;
      count = all ∙ ap (λ (n : ℕ). n + length bytes) (sym size) ∙ sym (length-append found bytes) ∙ ap (λ (x : List ℕ). length (x ++ bytes)) (sym front);
      shown = ap (λ (n : ℕ). take n (found ++ drop fixed start)) {x = len} {y = length found + past} (omega (arith, all, size))
          ∙ take-append-add found (drop fixed start) past ∙ ap (λ (x : List ℕ). found ++ x) others
          ∙ sym (take-append-add found bytes (56 - fixed)) ∙ ap (λ (n : ℕ). take n (found ++ bytes)) {x = length found + (56 - fixed)} {y = 56} (omega (arith, small, size))
          ∙ ap (λ (x : List ℕ). take 56 (x ++ bytes)) (sym front);
    }
