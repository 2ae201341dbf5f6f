-- The end node of a path in the first bytes of a buffer is a path of its own, to which nodes are added.
use Rattle.std.proofs.Common.{◌≡◌, ◌≤◌, ◌<◌, ◌^◌, ◌∙◌, ap, sym, refl, subst, ℕ, ◌+◌, ◌-◌, min, Bool, true, false, not, nat_lt, if◌then◌else◌, List, [], ◌∷◌, ◌++◌, append_assoc, take, drop, length, length-append, length-drop, length-take, Option, Some, None, Result, Ok, Err, arith}
use Rattle.std.proofs.lemmas.Bool.{and_parts}
use Rattle.std.proofs.lemmas.Grind.{common_steps}
use Rattle.std.proofs.lemmas.List.{append-nil, drop-drop, nil_from_length, take-append-drop}
use Rattle.std.proofs.lemmas.List.Elements.{All-nil}
use Rattle.std.proofs.Math.Seq.{drop-append_seam}
use borrow.Rule.Slice.PartMut.{put_mid}
use Rattle.std.specs.Cmp.Lexicographic.{same_text}
use Rattle.std.specs.List.{slice_range}
use Rattle.uefi_text.specs.UnalignedCStr16.{with_prefix}
use Rattle.uefi_device_path.proofs.CheckedRuns.{path_is_read}
use Rattle.uefi_device_path.specs.Building.{ends_at, grow_refusal, text_refusal}
use Rattle.uefi_device_path.specs.Nodes.{IsInner, Node, end_entire, node_bytes}
use Rattle.uefi_device_path.specs.Paths.{BeginWithPath, nodes_bytes, path_bytes}
use Rattle.uefi_device_path.specs.PushedPaths.{Leaves, bytes_unless, nodes_appended, once_read, text_pushed}
use Rattle.uefi_device_path.specs.StyledReading.{path_read}
use Rattle.uefi_device_path.specs.TextStyle.{TextStyle}
use Rattle.uefi_device_path.specs.declared.errors.BuildError.TheVariants.{BufferTooSmall}
use Rattle.uefi_device_path.specs.declared.errors.GrowError.{GrowError}
use Rattle.uefi_device_path.specs.declared.errors.GrowError.TheVariants.{Build}
use Rattle.uefi_device_path.specs.declared.text.text_errors.PushTextError.{PushTextError}
use Rattle.uefi_device_path.specs.declared.text.text_errors.PushTextError.TheVariants as push
use Rattle.uefi_device_path.specs.declared.text.text_errors.TextFault.{TextFault}
use Rattle.nardcorbel.proofs.NodeOffsets.{left_from}
use Rattle.nardcorbel.specs.PathEnds.{moved_error, moved_text_error, nodes_appended_at, room_or, text_parsed, text_pushed_at}

-- where the first bytes end with an end node, it begins four bytes before their end
pub ends_open : (bytes : List ℕ) (len : ℕ) → ends_at bytes len ≡ true
    → (4 ≤ len) × ((len ≤ length bytes) × BeginWithPath (drop (len - 4) bytes) [])
ends_open bytes len is =
    let parts = and_parts (not (nat_lt (length bytes) len)) _ is in
    let within : len ≤ length bytes = grind (arith, common_steps, parts.0) in
    let front : length (take len bytes) ≡ len = omega (arith, length-take len bytes, within) in
    let end : node_bytes end_entire ≡ drop (length (take len bytes) - 4) (take len bytes) = same_text _ _ (sym parts.1) in
    let four : 4 ≤ len = omega (arith, ap length end, length-drop (length (take len bytes) - 4) (take len bytes), front) in
    let there : node_bytes end_entire ≡ drop (len - 4) (take len bytes) = end ∙ ap (λ n. drop (n - 4) (take len bytes)) front in
    let all : take len bytes ++ drop len bytes ≡ bytes = take-append-drop len bytes in
    let cut : drop (len - 4) bytes ≡ drop (len - 4) (take len bytes) ++ drop len bytes =
    sym (ap (drop (len - 4)) all) ∙ drop_front (take len bytes) (drop len bytes) (len - 4) (omega (arith, front)) in
    (four, (within, (drop len bytes, record { inner = All-nil IsInner; join = cut ∙ ap (λ us. us ++ drop len bytes) (sym there) })))
  where
    drop_front : (xs ys : List ℕ) (n : ℕ) → n ≤ length xs → drop n (xs ++ ys) ≡ drop n xs ++ ys
    drop_front xs ys n small =
        let parts : take n xs ++ drop n xs ≡ xs = take-append-drop n xs in
        let whole : xs ++ ys ≡ take n xs ++ (drop n xs ++ ys) = ap (λ us. us ++ ys) (sym parts) ∙ append_assoc (take n xs) (drop n xs) ys in
        let long : length (take n xs) ≡ n = omega (arith, length-take n xs, small) in
        ap (drop n) whole ∙ ap (λ k. drop k (take n xs ++ (drop n xs ++ ys))) (sym long) ∙ drop-append_seam (take n xs) (drop n xs ++ ys)

-- what was written to the bytes from a place on, with the bytes before it
pub with_front : (front content rest : List ℕ) → nat_lt (length rest) (length content) ≡ false
    → front ++ with_prefix content rest ≡ with_prefix (front ++ content) (front ++ rest)
with_front front content rest fits =
    let long = length-append front content in
    let all = length-append front rest in
    let same : nat_lt (length (front ++ rest)) (length (front ++ content)) ≡ false = grind (arith, common_steps, fits, long, all) in
    let left : drop (length (front ++ content)) (front ++ rest) ≡ drop (length content) rest =
    ap (λ n. drop n (front ++ rest)) long ∙ sym (drop-drop (length content) (length front) (front ++ rest)) ∙ ap (drop (length content)) (drop-append_seam front rest) in
    ap (λ b. front ++ (if b then rest else content ++ drop (length content) rest)) fits
    ∙ sym (append_assoc front content (drop (length content) rest))
    ∙ sym (ap (λ us. (front ++ content) ++ us) left)
    ∙ sym (ap (λ b. if b then front ++ rest else (front ++ content) ++ drop (length (front ++ content)) (front ++ rest)) same)

-- bytes that were left from a place on, or the error that says how many there are, with the bytes before it
module _ {E : Type 0} (front content sub new : List ℕ) (inner outer : Bool → Option E) (small other : E)
    (is_small : inner true ≡ Some small) (fits_in : inner false ≡ None) (is_other : outer true ≡ Some other) (fits_out : outer false ≡ None) where
  abbrev left_in : Bool → Result ℕ E → Type 0
  left_in short given = Leaves (bytes_unless (inner short) content) sub given new

  abbrev left_out : Bool → Result ℕ E → Type 0
  left_out short given = Leaves (bytes_unless (outer short) (front ++ content)) (front ++ sub) given (front ++ new)

  longer : (short : Bool) → nat_lt (length sub) (length content) ≡ short → nat_lt (length (front ++ sub)) (length (front ++ content)) ≡ short
  longer true e = grind (arith, common_steps, e, length-append front content, length-append front sub)
  longer false e = grind (arith, common_steps, e, length-append front content, length-append front sub)

  pub moved_ok : (n : ℕ) → left_in (nat_lt (length sub) (length content)) (Ok n)
      → left_out (nat_lt (length (front ++ sub)) (length (front ++ content))) (Ok (length front + n))
  moved_ok n left = by (nat_lt (length sub) (length content)) refl left
    where
      by : (short : Bool) → nat_lt (length sub) (length content) ≡ short → left_in short (Ok n)
          → left_out (nat_lt (length (front ++ sub)) (length (front ++ content))) (Ok (length front + n))
      by true e left =
          let refused = subst (λ (o : Option E). Leaves (bytes_unless o content) sub (Ok n) new) is_small left in
          absurd (cc (refused.0))
      by false e left =
          let wrote = subst (λ (o : Option E). Leaves (bytes_unless o content) sub (Ok n) new) fits_in left in
          let count : n ≡ length content = cc (wrote.0) in
          rw (longer false e, fits_out) (
            ap (λ (k : ℕ). Ok (length front + k)) count ∙ ap Ok (sym (length-append front content)),
            ap (λ us. front ++ us) wrote.1 ∙ with_front front content sub e,
          )

  pub moved_err : (error : E) → left_in (nat_lt (length sub) (length content)) (Err error)
      → (error ≡ small) × left_out (nat_lt (length (front ++ sub)) (length (front ++ content))) (Err other)
  moved_err error left = by (nat_lt (length sub) (length content)) refl left
    where
      by : (short : Bool) → nat_lt (length sub) (length content) ≡ short → left_in short (Err error)
          → (error ≡ small) × left_out (nat_lt (length (front ++ sub)) (length (front ++ content))) (Err other)
      by false e left =
          let wrote = subst (λ (o : Option E). Leaves (bytes_unless o content) sub (Err error) new) fits_in left in
          absurd (cc (wrote.0))
      by true e left =
          let refused = subst (λ (o : Option E). Leaves (bytes_unless o content) sub (Err error) new) is_small left in
          (cc (refused.0), rw (longer true e, is_other) (refl, ap (λ us. front ++ us) refused.1))

-- a buffer from a place on, as a slice, and with what was written there
put_rest : (buffer new : List ℕ) (n : ℕ) → put_mid n (length buffer - n) buffer new ≡ take n buffer ++ new
put_rest buffer new n =
    let none = nil_from_length (drop (length buffer - n) (drop n buffer)) (omega (arith, length-drop (length buffer - n) (drop n buffer), length-drop n buffer)) in
    ap (λ us. take n buffer ++ (new ++ us)) none ∙ ap (λ us. take n buffer ++ us) (append-nil new)

-- a result of a call that was given a buffer from a place on
abbrev pub moved : {E : Type 0} → (ℕ → E → E) → ℕ → Result ℕ E → Result ℕ E
moved move start (Ok n) = Ok (start + n)
moved move start (Err error) = Err (move start error)

-- the nodes of a path that were added at the end of the first bytes
pub appended_at : (buffer : List ℕ) (len : ℕ) (nodes : List Node) (given : Result ℕ GrowError) (new : List ℕ) → length buffer < 2 ^ 63
    → length (path_bytes nodes) < 2 ^ 63 → ends_at buffer len ≡ true
    → Leaves (nodes_appended nodes (slice_range buffer (len - 4) (length buffer))) (slice_range buffer (len - 4) (length buffer)) given new
    → Leaves (nodes_appended_at len nodes buffer) buffer (moved moved_error (len - 4) given) (put_mid (len - 4) (length buffer - (len - 4)) buffer new)
appended_at buffer len nodes given new room bound ends left =
    let there_is = ends_open buffer len ends in
    let same : slice_range buffer (len - 4) (length buffer) ≡ sub = left_from buffer _ (len - 4) refl in
    let whole : front ++ sub ≡ buffer = take-append-drop (len - 4) buffer in
    let size : length front ≡ len - 4 = omega (arith, length-take (len - 4) buffer, there_is.1.0) in
    let there = rw (path_is_read sub [] there_is.1.1) at (subst (λ us. Leaves (nodes_appended nodes us) us given new) same left) in
    rw (ends, put_rest buffer new (len - 4))
    (subst (λ us. whole_left us (moved moved_error (len - 4) given)) whole (by size given there))
  where
    front : List ℕ
    front = take (len - 4) buffer

    sub : List ℕ
    sub = drop (len - 4) buffer

    inner : Bool → Option GrowError
    inner short = grow_refusal (if short then Some (BufferTooSmall (length (path_bytes nodes))) else None)

    outer : Bool → Option GrowError
    outer short = grow_refusal (if short then Some (BufferTooSmall (length (front ++ path_bytes nodes))) else None)

    whole_left : List ℕ → Result ℕ GrowError → Type 0
    whole_left us given =
        Leaves (bytes_unless (outer (nat_lt (length us) (length (front ++ path_bytes nodes)))) (front ++ path_bytes nodes)) us given (front ++ new)

    by : length front ≡ len - 4 → (given : Result ℕ GrowError)
        → Leaves (bytes_unless (inner (nat_lt (length sub) (length (path_bytes nodes)))) (path_bytes nodes)) sub given new
        → whole_left (front ++ sub) (moved moved_error (len - 4) given)
    by size (Ok n) left =
        subst (λ (k : ℕ). whole_left (front ++ sub) (Ok (k + n))) size
        (moved_ok front (path_bytes nodes) sub new inner outer _ _ refl refl refl refl n left)
    by size (Err error) left =
        let gone = moved_err front (path_bytes nodes) sub new inner outer _ _ refl refl refl refl error left in
        let count : min (len - 4 + length (path_bytes nodes)) (2 ^ 64 - 1) ≡ length (front ++ path_bytes nodes) =
        omega (arith, size, length-append front (path_bytes nodes), room, bound, length-take (len - 4) buffer) in
        let is : moved_error (len - 4) error ≡ Build (BufferTooSmall (length (front ++ path_bytes nodes))) =
        ap (moved_error (len - 4)) gone.0 ∙ ap (λ (k : ℕ). Build (BufferTooSmall k)) count in
        subst (λ (e : GrowError). whole_left (front ++ sub) (Err e)) (sym is) gone.1

-- what becomes of a text that is read in a buffer that begins with the empty path
abbrev pub read_in : TextStyle → List ℕ → List ℕ → Result (List ℕ) PushTextError
read_in style text sub = once_read push.NoNode (path_read style text) (λ nodes. bytes_unless (room_or (path_bytes nodes) sub) (path_bytes nodes))

pub read_as : (style : TextStyle) (text sub : List ℕ) (given : Result ℕ PushTextError) (new : List ℕ) → length sub < 2 ^ 63
    → BeginWithPath sub [] → Leaves (text_pushed style text sub) sub given new → Leaves (read_in style text sub) sub given new
read_as style text sub given new room begins left = by (path_read style text) (rw (path_is_read sub [] begins) at left)
  where
    by : (read : Result (List Node) TextFault)
        → Leaves (once_read push.NoNode read (λ nodes. bytes_unless (text_refusal [] nodes (length sub)) (path_bytes nodes))) sub given new
        → Leaves (once_read push.NoNode read (λ nodes. bytes_unless (room_or (path_bytes nodes) sub) (path_bytes nodes))) sub given new
    by (Err fault) left = left
    by (Ok nodes) left =
        let same : nat_lt (length sub) (min (length (path_bytes nodes)) (2 ^ 64 - 1)) ≡ nat_lt (length sub) (length (path_bytes nodes)) = grind (arith, common_steps) in
        rw same at left

-- the nodes of a text that were added at the end of the first bytes
pub text_at : (style : TextStyle) (text buffer : List ℕ) (len : ℕ) (given : Result ℕ PushTextError) (new : List ℕ) → length buffer < 2 ^ 63
    → ends_at buffer len ≡ true
    → Leaves (text_pushed style text (slice_range buffer (len - 4) (length buffer))) (slice_range buffer (len - 4) (length buffer)) given new
    → Leaves (text_pushed_at style text len buffer) buffer (moved moved_text_error (len - 4) given) (put_mid (len - 4) (length buffer - (len - 4)) buffer new)
text_at style text buffer len given new room ends left =
    let there_is = ends_open buffer len ends in
    let same : slice_range buffer (len - 4) (length buffer) ≡ sub = left_from buffer _ (len - 4) refl in
    let whole : front ++ sub ≡ buffer = take-append-drop (len - 4) buffer in
    let size : length front ≡ len - 4 = omega (arith, length-take (len - 4) buffer, there_is.1.0) in
    let there = read_as style text sub given new (omega (arith, length-drop (len - 4) buffer)) there_is.1.1
    (subst (λ us. Leaves (text_pushed style text us) us given new) same left) in
    rw (ends, put_rest buffer new (len - 4))
    (subst (λ us. out (path_read style text) us (moved moved_text_error (len - 4) given)) whole (by size (path_read style text) given there))
  where
    front : List ℕ
    front = take (len - 4) buffer

    sub : List ℕ
    sub = drop (len - 4) buffer

    inner : List Node → Bool → Option PushTextError
    inner nodes short = if short then Some (push.BufferTooSmall (min (length (path_bytes nodes)) (2 ^ 64 - 1))) else None

    outer : List Node → Bool → Option PushTextError
    outer nodes short = if short then Some (push.BufferTooSmall (min (length (front ++ path_bytes nodes)) (2 ^ 64 - 1))) else None

    out : Result (List Node) TextFault → List ℕ → Result ℕ PushTextError → Type 0
    out read us given =
        Leaves (once_read push.NoNode read (λ nodes. bytes_unless (room_or (front ++ path_bytes nodes) us) (front ++ path_bytes nodes))) us given (front ++ new)

    by : length front ≡ len - 4 → (read : Result (List Node) TextFault) (given : Result ℕ PushTextError)
        → Leaves (once_read push.NoNode read (λ nodes. bytes_unless (room_or (path_bytes nodes) sub) (path_bytes nodes))) sub given new
        → out read (front ++ sub) (moved moved_text_error (len - 4) given)
    by size (Err fault) (Ok n) (gave, kept) = absurd (cc (gave))
    by size (Err fault) (Err error) (gave, kept) =
        let same : error ≡ push.NoNode fault = cc (gave) in
        subst (λ (e : PushTextError). out (Err fault) (front ++ sub) (Err e)) (sym (ap (moved_text_error (len - 4)) same)) (refl, ap (λ us. front ++ us) kept)
    by size (Ok nodes) (Ok n) left =
        subst (λ (k : ℕ). out (Ok nodes) (front ++ sub) (Ok (k + n))) size
        (moved_ok front (path_bytes nodes) sub new (inner nodes) (outer nodes) _ _ refl refl refl refl n left)
    by size (Ok nodes) (Err error) left =
        let gone = moved_err front (path_bytes nodes) sub new (inner nodes) (outer nodes) _ _ refl refl refl refl error left in
        let count : min (len - 4 + min (length (path_bytes nodes)) (2 ^ 64 - 1)) (2 ^ 64 - 1) ≡ min (length (front ++ path_bytes nodes)) (2 ^ 64 - 1) =
        omega (arith, size, length-append front (path_bytes nodes)) in
        let is : moved_text_error (len - 4) error ≡ push.BufferTooSmall (min (length (front ++ path_bytes nodes)) (2 ^ 64 - 1)) =
        ap (moved_text_error (len - 4)) gone.0 ∙ ap (λ (k : ℕ). push.BufferTooSmall k) count in
        subst (λ (e : PushTextError). out (Ok nodes) (front ++ sub) (Err e)) (sym is) gone.1

-- a buffer that begins with an end node
abbrev pub ended : List ℕ → List ℕ
ended buffer = (0x7f ∷ 0xff ∷ 4 ∷ 0 ∷ []) ++ drop 4 buffer

pub begins_empty : (rest : List ℕ) → BeginWithPath ((0x7f ∷ 0xff ∷ 4 ∷ 0 ∷ []) ++ rest) []
begins_empty rest = (rest, record { inner = All-nil IsInner; join = refl })

-- the path of a text in a buffer that was given an end node, and got its bytes back where the text is refused
pub parsed_ok : (style : TextStyle) (text buffer : List ℕ) (n : ℕ) (new : List ℕ) → 4 ≤ length buffer → length buffer < 2 ^ 63
    → Leaves (text_pushed style text (ended buffer)) (ended buffer) (Ok n) new → Leaves (text_parsed style text buffer) buffer (Ok n) new
parsed_ok style text buffer n new four room left =
    let short : length (ended buffer) < 2 ^ 63 = omega (arith, size, room) in
    by (path_read style text) (read_as style text (ended buffer) (Ok n) new short (begins_empty (drop 4 buffer)) left)
  where
    size : length (ended buffer) ≡ length buffer
    size = omega (arith, length-append (0x7f ∷ 0xff ∷ 4 ∷ 0 ∷ []) (drop 4 buffer), length-drop 4 buffer)

    fits : (nodes : List Node) (short : Bool) → nat_lt (length buffer) (length (path_bytes nodes)) ≡ short
        → Leaves (bytes_unless (if short then Some (push.BufferTooSmall (min (length (path_bytes nodes)) (2 ^ 64 - 1))) else None) (path_bytes nodes)) (ended buffer) (Ok n) new
        → Leaves (bytes_unless (if short then Some (push.BufferTooSmall (min (length (path_bytes nodes)) (2 ^ 64 - 1))) else None) (path_bytes nodes)) buffer (Ok n) new
    fits nodes true e (gave, wrote) = absurd (cc (gave))
    fits nodes false e (gave, wrote) =
        let content = path_bytes nodes in
        let long : 4 ≤ length content = omega (arith, length-append (nodes_bytes nodes) (node_bytes end_entire)) in
        let other : nat_lt (length (ended buffer)) (length content) ≡ false = ap (λ k. nat_lt k (length content)) size ∙ e in
        let same : drop (length content) (ended buffer) ≡ drop (length content) buffer =
        ap (λ k. drop k (ended buffer)) (omega (arith, long)) ∙ sym (drop-drop (length content - 4) 4 (ended buffer))
        ∙ drop-drop (length content - 4) 4 buffer ∙ ap (λ k. drop k buffer) (omega (arith, long)) in (
          gave,
          wrote ∙ ap (λ b. if b then ended buffer else content ++ drop (length content) (ended buffer)) other
              ∙ ap (λ us. content ++ us) same
              ∙ sym (ap (λ b. if b then buffer else content ++ drop (length content) buffer) e),
        )

    by : (read : Result (List Node) TextFault)
        → Leaves (once_read push.NoNode read (λ nodes. bytes_unless (room_or (path_bytes nodes) (ended buffer)) (path_bytes nodes))) (ended buffer) (Ok n) new
        → Leaves (once_read push.NoNode read (λ nodes. bytes_unless (room_or (path_bytes nodes) buffer) (path_bytes nodes))) buffer (Ok n) new
    by (Err fault) (gave, kept) = absurd (cc (gave))
    by (Ok nodes) left =
        let content = path_bytes nodes in
        let refused : ℕ → Option PushTextError =
        λ k. if nat_lt k (length content) then Some (push.BufferTooSmall (min (length content) (2 ^ 64 - 1))) else None in
        fits nodes (nat_lt (length buffer) (length content)) refl
        (subst (λ (k : ℕ). Leaves (bytes_unless (refused k) content) (ended buffer) (Ok n) new) size left)

-- an error leaves a buffer unchanged, which is no longer than the one in which the text was read
pub parsed_err : (style : TextStyle) (text old buffer : List ℕ) (error : PushTextError) (new : List ℕ) → length old < 2 ^ 63 → BeginWithPath old []
    → length buffer ≤ length old → Leaves (text_pushed style text old) old (Err error) new
    → (new ≡ old) × Leaves (text_parsed style text buffer) buffer (Err error) buffer
parsed_err style text old buffer error new room begins shorter left =
    by (path_read style text) (read_as style text old (Err error) new room begins left)
  where
    fits : (nodes : List Node) (short : Bool) → nat_lt (length old) (length (path_bytes nodes)) ≡ short
        → Leaves (bytes_unless (if short then Some (push.BufferTooSmall (min (length (path_bytes nodes)) (2 ^ 64 - 1))) else None) (path_bytes nodes)) old (Err error) new
        → (new ≡ old) × Leaves (bytes_unless (room_or (path_bytes nodes) buffer) (path_bytes nodes)) buffer (Err error) buffer
    fits nodes true e (gave, kept) =
        let short : nat_lt (length buffer) (length (path_bytes nodes)) ≡ true = grind (arith, common_steps, e, shorter) in
        (kept, rw short (gave, refl))
    fits nodes false e (gave, wrote) = absurd (cc (gave))

    by : (read : Result (List Node) TextFault)
        → Leaves (once_read push.NoNode read (λ nodes. bytes_unless (room_or (path_bytes nodes) old) (path_bytes nodes))) old (Err error) new
        → (new ≡ old) × Leaves (once_read push.NoNode read (λ nodes. bytes_unless (room_or (path_bytes nodes) buffer) (path_bytes nodes))) buffer (Err error) buffer
    by (Err fault) (gave, kept) = (kept, (gave, refl))
    by (Ok nodes) left = fits nodes (nat_lt (length old) (length (path_bytes nodes))) refl left
