-- What stands in quotation marks or after a slash is read as it is without them.
use Rattle.std.proofs.Common.{◌≡◌, ℕ, zero, suc, ◌+◌, ◌-◌, ◌<◌, ◌≤◌, Bool, true, false, cond, get_or, List, [], ◌∷◌, ◌++◌, length, take, drop, refl, ap, sym, ◌∙◌, append_assoc, arith, true≢false}
use Rattle.std.proofs.Math.ListN.{get_or-append}
use Rattle.std.proofs.Math.Seq.{get_or-append_seam}
use Rattle.std.specs.Prelude.{Result, Ok, Err, ◌==◌, ◌&&◌, not, nat_lt, slice_index}
use Rattle.std.specs.Char.{is_ascii_whitespace}
use Rattle.std.specs.List.{suffix_len}
use Rattle.std.proofs.lemmas.Bool.{and_from, and_parts, lt-ltb, ltb-true, not-true, or_parts}
use Rattle.std.proofs.lemmas.Bool.Decides.{nat_tests}
use Rattle.std.proofs.lemmas.List.{get_or-append-add, get_or-append_right, length-append, take_at}
use Rattle.std.proofs.lemmas.List.Folds.{list_all_at}
use Rattle.std.proofs.lemmas.List.Sums.{suffix_len_is}
use borrow.Author.Tests.{eq-eqb, ltb-false}
use Rattle.uefi_device_nodes.specs.Nodes.{Node}
use Rattle.uefi_device_path.specs.AroundNodes.{after_first, before_closing, before_last, first_byte, first_place, is_mark, is_quoted, is_slashed, is_spaces, last_byte, may_begin, past_slash}
use Rattle.uefi_device_path.specs.Laws.{QuotedIsRead, SlashedIsRead, fault_after, read_after}
use Rattle.uefi_device_path.specs.PathReading.{end_instance}
use Rattle.uefi_device_path.specs.StyledReading.{fault_from, follows_comma, more_nodes, node_then, nodes_of_rest, path_read, place_read}
use Rattle.uefi_device_path.proofs.AroundNodes.{past_slash-within}
use Rattle.uefi_device_path.proofs.StyledReading.{Nodes, failing}
use Rattle.uefi_node_reader.specs.NamedFiles.{before_spaces, is_after_node, past_spaces}
use Rattle.uefi_node_reader.specs.Styles.{StyledEnds, styled_read}
use Rattle.uefi_node_reader.specs.declared.errors.faults.NodeFault.{NodeFault}
use Rattle.uefi_node_reader.specs.declared.styles.TextStyle.{TextStyle}
use Rattle.uefi_node_reader.specs.TableReading.{first_of, is_empty}
use Rattle.uefi_node_reader.specs.declared.styles.TextStyle.TheVariants.{Lenient}

spaces_past : (before rest : List ℕ) → is_spaces before ≡ true → past_spaces (before ++ rest) ≡ past_spaces rest
spaces_past [] rest e = refl
spaces_past (c ∷ cs) rest e =
    let parts = and_parts (is_ascii_whitespace c) (is_spaces cs) e in
    ap (λ (b : Bool). cond b (past_spaces (cs ++ rest)) (c ∷ (cs ++ rest))) parts.0 ∙ spaces_past cs rest parts.1

-- before a byte that is no blank
past_at : (before : List ℕ) (byte : ℕ) (rest : List ℕ) → is_spaces before ≡ true → is_ascii_whitespace byte ≡ false
    → past_spaces (before ++ (byte ∷ rest)) ≡ byte ∷ rest
past_at before byte rest e other = spaces_past before (byte ∷ rest) e ∙ ap (λ (b : Bool). cond b (past_spaces rest) (byte ∷ rest)) other

-- and after one
module _ (front : List ℕ) (byte : ℕ) (after : List ℕ) (blank : is_spaces after ≡ true) (other : is_ascii_whitespace byte ≡ false) where
  abbrev short : List ℕ
  short = front ++ (byte ∷ [])

  abbrev long : List ℕ
  long = front ++ (byte ∷ after)

  splits : long ≡ short ++ after
  splits = sym (append_assoc front (byte ∷ []) after)

  size : length short ≡ length front + 1
  size = omega (arith, length-append front (byte ∷ []))

  sizes : length long ≡ length short + length after
  sizes = ap length splits ∙ length-append short after

  each_blank : (k : ℕ) → length short ≤ k → k < length long → is_ascii_whitespace (get_or long k 0) ≡ true
  each_blank k low high = by (is_ascii_whitespace (get_or long k 0)) refl
    where
      same : get_or long k 0 ≡ get_or after (k - length short) 0
      same = ap (λ (l : List ℕ). get_or l k 0) splits ∙ get_or-append_right short after (length short) k 0 refl low

      by : (b : Bool) → is_ascii_whitespace (get_or long k 0) ≡ b → b ≡ true
      by true e = refl
      by false e = absurd (true≢false (sym blank ∙ list_all_at is_ascii_whitespace after (k - length short) 0 (omega (arith, low, high, sizes))
          (ap is_ascii_whitespace (sym same) ∙ e)))

  blanks_after : suffix_len is_ascii_whitespace long ≡ length long - length short
  blanks_after = suffix_len_is is_ascii_whitespace long (length short) 0 (omega (arith, sizes)) each_blank
      (λ some. ap is_ascii_whitespace (ap (λ (n : ℕ). get_or long n 0) last ∙ get_or-append_seam front byte after 0) ∙ other)
    where
      last : length short - 1 ≡ length front
      last = omega (arith, size)

  whole_kept : before_spaces long ≡ short
  whole_kept =
      let count : length long - suffix_len is_ascii_whitespace long ≡ length short = omega (arith, blanks_after, sizes) in
      ap (λ (n : ℕ). take n long) count ∙ ap (λ (l : List ℕ). take (length short) l) splits ∙ take_at short after (length short) refl

  before_is : before_last long ≡ front
  before_is =
      let count : length front ≡ length short - 1 = omega (arith, size) in
      ap (λ (l : List ℕ). take (length l - 1) l) whole_kept
      ∙ ap (λ (n : ℕ). take n short) (sym count) ∙ take_at front (byte ∷ []) (length front) refl

  last_is : last_byte long ≡ byte
  last_is =
      let count : length front ≡ length short - 1 = omega (arith, size) in
      ap (λ (l : List ℕ). slice_index l (length l - 1)) whole_kept
      ∙ ap (λ (n : ℕ). get_or short n 0) (sym count) ∙ get_or-append_seam front byte [] 0

mark_no_blank : (mark : ℕ) → is_mark mark ≡ true → is_ascii_whitespace mark ≡ false
mark_no_blank mark e = grind (arith, nat_tests)

mark_no_comma : (mark : ℕ) → is_mark mark ≡ true → (mark == 44) ≡ false
mark_no_comma mark e = grind (arith, nat_tests)

-- a text in quotation marks
module _ (mark : ℕ) (before text after : List ℕ) (is : is_mark mark ≡ true) (blank : is_spaces before ≡ true) (blanks : is_spaces after ≡ true)
    (some : is_empty (past_spaces text) ≡ false) where
  abbrev quoted : List ℕ
  quoted = before ++ (mark ∷ (text ++ (mark ∷ after)))

  abbrev opened : List ℕ
  opened = before ++ (mark ∷ text)

  joined : quoted ≡ opened ++ (mark ∷ after)
  joined = sym (append_assoc before (mark ∷ text) (mark ∷ after))

  inside : before_last quoted ≡ opened
  inside = ap before_last joined ∙ before_is opened mark after blanks (mark_no_blank mark is)

  rest_is : after_first opened ≡ text
  rest_is = ap (drop 1) (past_at before mark text blank (mark_no_blank mark is))

  marked : is_quoted quoted ≡ true
  marked =
      let first : first_byte quoted ≡ mark = ap first_of (past_at before mark (text ++ (mark ∷ after)) blank (mark_no_blank mark is)) in
      let last : last_byte quoted ≡ mark = ap last_byte joined ∙ last_is opened mark after blanks (mark_no_blank mark is) in
      let filled : is_empty (past_spaces (after_first (before_last quoted))) ≡ false =
      ap (λ (l : List ℕ). is_empty (past_spaces (after_first l))) inside ∙ ap (λ (l : List ℕ). is_empty (past_spaces l)) rest_is ∙ some in
      and_from _ _ (and_from _ _ (ap is_mark first ∙ is) (eq-eqb (last_byte quoted) (first_byte quoted) (last ∙ sym first))) (ap not filled)

  -- nodes are read up to the mark that closes it, from after the mark that opens it
  closing_is : before_closing Lenient quoted ≡ opened
  closing_is = ap (λ (b : Bool). cond b (before_last quoted) quoted) marked ∙ inside

  first_is : first_place Lenient quoted ≡ past_slash text
  first_is = ap (λ (b : Bool). past_slash (cond b (after_first (before_last quoted)) quoted)) marked
      ∙ ap (λ (l : List ℕ). past_slash (after_first l)) inside ∙ ap past_slash rest_is

-- a text that is in none
plain_closing : (text : List ℕ) → is_quoted text ≡ false → before_closing Lenient text ≡ text
plain_closing text e = ap (λ (b : Bool). cond b (before_last text) text) e

plain_first : (text : List ℕ) → is_quoted text ≡ false → first_place Lenient text ≡ past_slash text
plain_first text e = ap (λ (b : Bool). past_slash (cond b (after_first (before_last text)) text)) e

-- a text after a slash
module _ (before text : List ℕ) (blank : is_spaces before ≡ true) (follows : may_begin (past_spaces text) ≡ true) where
  abbrev slashed : List ℕ
  slashed = before ++ (47 ∷ text)

  slash_is : past_spaces slashed ≡ 47 ∷ text
  slash_is = past_at before 47 text blank refl

  unquoted : is_quoted slashed ≡ false
  unquoted = ap (λ (l : List ℕ). (is_mark (first_of l) && (last_byte slashed == first_of l)) && not (is_empty (past_spaces (after_first (before_last slashed))))) slash_is

  slash_passed : past_slash slashed ≡ text
  slash_passed =
      let first : (first_byte slashed == 47) ≡ true = ap (λ (l : List ℕ). first_of l == 47) slash_is in
      let rest : after_first slashed ≡ text = ap (drop 1) slash_is in
      let passed : is_slashed slashed ≡ true = and_from _ _ first (ap (λ (l : List ℕ). may_begin (past_spaces l)) rest ∙ follows) in
      ap (λ (b : Bool). cond b (after_first slashed) slashed) passed ∙ rest

  no_other : past_slash text ≡ text
  no_other = ap (λ (b : Bool). cond b (after_first text) text) (by (past_spaces text) (not-true _ (and_parts _ _ follows).0))
    where
      by : (l : List ℕ) → is_after_node l ≡ false → (first_of l == 47) && may_begin (past_spaces (after_first text)) ≡ false
      by [] e = absurd (true≢false e)
      by (c ∷ cs) e = ap (λ (b : Bool). b && may_begin (past_spaces (after_first text))) (or_parts (c == 47) (c == 44) e).0

-- what is read of a text where other bytes stand before it, unless the last of these is a comma
module _ (style : TextStyle) (front text : List ℕ) (some : 0 < length front) (other : (get_or front (length front - 1) 0 == 44) ≡ false)
    (ends : StyledEnds) where
  abbrev all : List ℕ
  all = front ++ text

  sizes_add : length all ≡ length front + length text
  sizes_add = length-append front text

  follows_same : (place : List ℕ) → length place ≤ length text → follows_comma all place ≡ follows_comma text place
  follows_same place l = by (nat_lt (length place) (length text)) refl
    where
      late : nat_lt (length place) (length all) ≡ true
      late = lt-ltb (length place) (length all) (omega (arith, l, some, sizes_add))

      byte : Bool → Bool
      byte b = b && (slice_index text (length text - length place - 1) == 44)

      by : (b : Bool) → nat_lt (length place) (length text) ≡ b
          → nat_lt (length place) (length all) && (slice_index all (length all - length place - 1) == 44) ≡ byte (nat_lt (length place) (length text))
      by true e =
          let less : length place < length text = ltb-true (length place) (length text) e in
          let index : length all - length place - 1 ≡ length front + (length text - length place - 1) = omega (arith, less, sizes_add) in
          (λ i. late i && (get_or all (index i) 0 == 44))
          ∙ ap (λ (n : ℕ). n == 44) (get_or-append-add front text (length text - length place - 1) 0)
          ∙ ap byte (sym e)
      by false e =
          let whole : length text ≤ length place = ltb-false (length place) (length text) e in
          let index : length all - length place - 1 ≡ length front - 1 = omega (arith, l, whole, sizes_add) in
          (λ i. late i && (get_or all (index i) 0 == 44))
          ∙ ap (λ (n : ℕ). n == 44) (get_or-append front text 0 (length front - 1) (omega (arith, some)))
          ∙ other ∙ ap byte (sym e)

  abbrev later : Nodes → Nodes
  later r = read_after (length front) r

  more_later : (node : Node) (r : Nodes) → more_nodes node (later r) ≡ later (more_nodes node r)
  more_later node (Ok nodes) = refl
  more_later node (Err fault) = refl

  fault_later : (place : List ℕ) (found : NodeFault) → length place ≤ length text
      → fault_from all place found ≡ fault_after (length front) (fault_from text place found)
  fault_later place found l =
      let node : length all - length place ≡ length text - length place + length front = omega (arith, l, sizes_add) in
      let byte : length all - length place + found.byte ≡ length text - length place + found.byte + length front = omega (arith, node) in
      λ i. record { node = node i; byte = byte i; expected = found.expected }

  read_later : (m : ℕ) (s : Bool) (rest : List ℕ) → length rest ≤ length text
      → nodes_of_rest style all m s rest ≡ later (nodes_of_rest style text m s rest)
  read_later zero s rest l = refl
  read_later (suc m) s [] l = refl
  read_later (suc m) s (c ∷ cs) l = by (c == 44) (read_later m)
    where
      Next : Type 0
      Next = (t : Bool) (r : List ℕ) → length r ≤ length text → nodes_of_rest style all m t r ≡ later (nodes_of_rest style text m t r)

      place : List ℕ
      place = cond s (c ∷ cs) cs

      fits : (t : Bool) → length (cond t (c ∷ cs) cs) ≤ length text
      fits true = l
      fits false = omega (arith, l)

      step : (r : Result (Node × List ℕ) NodeFault) → place_read style text place ≡ r → Next
          → node_then all place (nodes_of_rest style all m false) r ≡ later (node_then text place (nodes_of_rest style text m false) r)
      step (Ok read) is h =
          let end = (ends style (follows_comma text place) place read.0 read.1 is).0 in
          let less : length read.1 ≤ length text = omega (arith, fits s, ap length end.2, length-append end.1 read.1) in
          ap (more_nodes read.0) (h false read.1 less) ∙ more_later read.0 (nodes_of_rest style text m false read.1)
      step (Err found) is h = ap failing (fault_later place found (fits s))

      by : (b : Bool) → Next
          → cond b (more_nodes end_instance (nodes_of_rest style all m true cs)) (node_then all place (nodes_of_rest style all m false) (place_read style all place))
          ≡ later (cond b (more_nodes end_instance (nodes_of_rest style text m true cs)) (node_then text place (nodes_of_rest style text m false) (place_read style text place)))
      by true h = ap (more_nodes end_instance) (h true cs (omega (arith, l))) ∙ more_later end_instance (nodes_of_rest style text m true cs)
      by false h =
          ap (λ (b : Bool). node_then all place (nodes_of_rest style all m false) (styled_read style b place)) (follows_same place (fits s))
          ∙ step (place_read style text place) refl h

-- what is read of a text up to a place, from another one on
abbrev from : List ℕ → List ℕ → Nodes
from whole first = nodes_of_rest Lenient whole (suc (length first)) true first

-- the last of bytes is no comma
last_other : (before : List ℕ) (byte : ℕ) → (byte == 44) ≡ false
    → (get_or (before ++ (byte ∷ [])) (length (before ++ (byte ∷ [])) - 1) 0 == 44) ≡ false
last_other before byte e =
    let index : length (before ++ (byte ∷ [])) - 1 ≡ length before = omega (arith, length-append before (byte ∷ [])) in
    ap (λ (n : ℕ). get_or (before ++ (byte ∷ [])) n 0 == 44) index ∙ ap (λ (n : ℕ). n == 44) (get_or-append_seam before byte [] 0) ∙ e

read_behind : StyledEnds → (before text : List ℕ) (byte : ℕ) → (byte == 44) ≡ false
    → from (before ++ (byte ∷ text)) (past_slash text) ≡ read_after (length before + 1) (from text (past_slash text))
read_behind ends before text byte e =
    let front : List ℕ = before ++ (byte ∷ []) in
    let size : length front ≡ length before + 1 = omega (arith, length-append before (byte ∷ [])) in
    ap (λ (l : List ℕ). from l (past_slash text)) (sym (append_assoc before (byte ∷ []) text))
    ∙ read_later Lenient front text (omega (arith, size)) (last_other before byte e) ends (suc (length (past_slash text))) true (past_slash text) (past_slash-within text)
    ∙ ap (λ (n : ℕ). read_after n (from text (past_slash text))) size

plain_read : (text : List ℕ) → is_quoted text ≡ false → from text (past_slash text) ≡ path_read Lenient text
unfolding path_read
plain_read text e = λ i. from (sym (plain_closing text e) i) (sym (plain_first text e) i)

pub quoted_is_read : StyledEnds → QuotedIsRead
unfolding path_read
quoted_is_read ends mark before text after is blank blanks some plain =
    (λ i. from (closing_is mark before text after is blank blanks some i) (first_is mark before text after is blank blanks some i))
    ∙ read_behind ends before text mark (mark_no_comma mark is)
    ∙ ap (read_after (length before + 1)) (plain_read text plain)

pub slashed_is_read : StyledEnds → SlashedIsRead
unfolding path_read
slashed_is_read ends before text blank follows plain =
    let whole : List ℕ = before ++ (47 ∷ text) in
    let none = unquoted before text blank follows in
    (λ i. from (plain_closing whole none i) (plain_first whole none i))
    ∙ ap (from whole) (slash_passed before text blank follows ∙ sym (no_other before text blank follows))
    ∙ read_behind ends before text 47 refl
    ∙ ap (read_after (length before + 1)) (plain_read text plain)
