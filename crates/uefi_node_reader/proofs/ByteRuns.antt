-- Bytes that are read one by one.
use Rattle.std.proofs.Common.{◌≡◌, ℕ, zero, suc, ◌+◌, ◌-◌, ◌<◌, ◌≤◌, ◌==◌, Bool, if◌then◌else◌, List, [], ◌∷◌, ◌++◌, refl, ap, sym, ◌∙◌, append_assoc, arith}
use Rattle.std.specs.Prelude.{Option, Some, None, option_and_then}
use Rattle.std.proofs.lemmas.List.{append-nil}
use borrow.Author.Tests.{ne_eqb}
use Rattle.uefi_node_reader.specs.FieldReading.{byte_read, more_read, bytes_read}
use Rattle.uefi_node_reader.specs.WordReading.{after}

-- a byte before others
abbrev as_next : ℕ → List ℕ × List ℕ → Option (List ℕ × List ℕ)
as_next byte others = Some (byte ∷ others.0, others.1)

-- bytes before those that are read
abbrev pub go_on : List ℕ → Option (List ℕ × List ℕ) → Option (List ℕ × List ℕ)
go_on front None = None
go_on front (Some read) = Some (front ++ read.0, read.1)

-- the bytes from a place on
abbrev pub read_from : ℕ → List ℕ → ℕ → List ℕ → Option (List ℕ × List ℕ)
read_from zero between count text = bytes_read between count text
read_from (suc place) between count text = more_read between count text

-- a byte and those after it
abbrev others_after : List ℕ → ℕ → ℕ × List ℕ → Option (List ℕ × List ℕ)
others_after between count first = go_on (first.0 ∷ []) (more_read between count first.1)

go_on_is : (byte : ℕ) (read : Option (List ℕ × List ℕ)) → go_on (byte ∷ []) read ≡ option_and_then (as_next byte) read
go_on_is byte None = refl
go_on_is byte (Some x) = refl

-- the byte at a place, and what stands after it
abbrev pub next_read : ℕ → List ℕ → List ℕ → Option (ℕ × List ℕ)
next_read place between text = if place == 0 then byte_read text else option_and_then byte_read (after between text)

-- one byte, and then the others
step : (place : ℕ) (between : List ℕ) (count : ℕ) (text : List ℕ)
    → read_from place between (suc count) text ≡ option_and_then (others_after between count) (next_read place between text)
step zero between count text = at (byte_read text)
  where
    at : (r : Option (ℕ × List ℕ)) → option_and_then (λ first. option_and_then (as_next first.0) (more_read between count first.1)) r
        ≡ option_and_then (others_after between count) r
    at None = refl
    at (Some x) = sym (go_on_is x.0 (more_read between count x.1))
step (suc place) between count text = (at (after between text)) ∙ ap (λ (t : Bool). option_and_then (others_after between count) (if t
    then byte_read text else option_and_then byte_read (after between text))) (sym (ne_eqb (suc place) 0 (λ e. omega arith)))
  where
    at : (r : Option (List ℕ)) → option_and_then (λ t. option_and_then (λ first. option_and_then (as_next first.0) (more_read between count first.1)) (byte_read t)) r
        ≡ option_and_then (others_after between count) (option_and_then byte_read r)
    at None = refl
    at (Some t) = by (byte_read t)
      where
        by : (r : Option (ℕ × List ℕ)) → option_and_then (λ first. option_and_then (as_next first.0) (more_read between count first.1)) r
            ≡ option_and_then (others_after between count) r
        by None = refl
        by (Some x) = sym (go_on_is x.0 (more_read between count x.1))

count_down : (n place : ℕ) → place < n → n - place ≡ suc (n - (place + 1))
count_down n place h = omega arith

-- no byte follows
pub step_none : (front : List ℕ) (place n : ℕ) (between text : List ℕ) → place < n → next_read place between text ≡ None
    → go_on front (read_from place between (n - place) text) ≡ None
step_none front place n between text h e = ap (λ (k : ℕ). go_on front (read_from place between k text)) (count_down n place h)
    ∙ ap (go_on front) (step place between (n - (place + 1)) text ∙ ap (option_and_then (others_after between (n - (place + 1)))) e)

-- a byte follows
pub step_some : (front : List ℕ) (place n : ℕ) (between text : List ℕ) (byte : ℕ) (left : List ℕ) → place < n
    → next_read place between text ≡ Some (byte, left)
    → go_on front (read_from place between (n - place) text) ≡ go_on (front ++ byte ∷ []) (read_from (place + 1) between (n - (place + 1)) left)
step_some front place n between text byte left h e = ap (λ (k : ℕ). go_on front (read_from place between k text)) (count_down n place h)
    ∙ ap (go_on front) (step place between (n - (place + 1)) text ∙ ap (option_and_then (others_after between (n - (place + 1)))) e)
    ∙ twice (more_read between (n - (place + 1)) left)
    ∙ ap (λ (k : ℕ). go_on (front ++ byte ∷ []) (read_from k between (n - (place + 1)) left)) {x = suc place} {y = place + 1} (omega arith)
  where
    twice : (r : Option (List ℕ × List ℕ)) → go_on front (go_on (byte ∷ []) r) ≡ go_on (front ++ byte ∷ []) r
    twice None = refl
    twice (Some x) = ap (λ (l : List ℕ). Some (l, x.1)) (sym (append_assoc front (byte ∷ []) x.0))

-- nothing is left to read
pub step_end : (front : List ℕ) (place n : ℕ) (between text : List ℕ) → n ≤ place
    → go_on front (read_from place between (n - place) text) ≡ Some (front, text)
step_end front place n between text h =
    ap (λ (k : ℕ). go_on front (read_from place between k text)) {x = n - place} {y = 0} (omega arith) ∙ ap (go_on front) (none place)
    ∙ ap (λ (l : List ℕ). Some (l, text)) (append-nil front)
  where
    none : (place : ℕ) → read_from place between 0 text ≡ Some ([], text)
    none zero = refl
    none (suc place) = refl
