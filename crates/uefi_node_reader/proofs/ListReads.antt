-- Items that are read one after the other, and put into a buffer.
use Rattle.std.proofs.Common.{◌≡◌, ℕ, zero, suc, List, ◌++◌, refl, sym, ap, ◌∙◌}
use Rattle.std.specs.Prelude.{Option, Some, None, option_and_then}
use Rattle.std.proofs.Math.ListN.{replicate}
use Rattle.uefi_device_nodes.specs.Rows.{Item}
use Rattle.uefi_node_reader.specs.CountedBytes.{pushed_bytes, put_on}
use Rattle.uefi_node_reader.specs.FieldReading.{◌>>=◌}
use Rattle.uefi_node_reader.proofs.CountedBytes.{pushed_bytes-append}
use Rattle.uefi_node_reader.proofs.Digits.{some_pair}
use Rattle.uefi_node_reader.specs.WordReading.{after}
use Rattle.uefi_node_reader.specs.TableReading.{items_read, more_items, pieces_put}

-- the list ends where no item begins
pub list_ends : (item : Item) (most : ℕ) (state : List ℕ × ℕ) (rest : List ℕ) → after item.start rest ≡ None
    → option_and_then (put_on state) (items_read most item rest) ≡ Some (state, rest)
list_ends item zero state rest e = refl
list_ends item (suc most) state rest e =
    ap (λ (o : Option (List ℕ)). option_and_then (put_on state) (more_items (items_read most item) item rest o)) e

module _ (item : Item) (most : ℕ) (state : List ℕ × ℕ) (rest fields : List ℕ) (begins : after item.start rest ≡ Some fields) where
  abbrev first : Option (List ℕ × List ℕ)
  first = pieces_put item.pieces (replicate item.size 0) fields

  after_first : List ℕ × List ℕ → Option (List ℕ × List ℕ)
  after_first read = items_read most item read.1 >>= λ others. Some (read.0 ++ others.0, others.1)

  go : Option (List ℕ × List ℕ) → Option ((List ℕ × ℕ) × List ℕ)
  go o = option_and_then (put_on state) (o >>= after_first)

  goes : option_and_then (put_on state) (items_read (suc most) item rest) ≡ go first
  unfolding go after_first
  goes = ap (λ (o : Option (List ℕ)). option_and_then (put_on state) (more_items (items_read most item) item rest o)) begins

  -- no item is read where its fields are not
  pub no_item : None ≡ option_and_then (put_on state) first → option_and_then (put_on state) (items_read (suc most) item rest) ≡ None
  unfolding go
  no_item e = goes ∙ by first e
    where
      by : (o : Option (List ℕ × List ℕ)) → None ≡ option_and_then (put_on state) o → go o ≡ None
      by None p = refl
      by (Some read) p = cc

  -- one item more
  pub next_item : (more : List ℕ × ℕ) (left : List ℕ) → Some (more, left) ≡ option_and_then (put_on state) first
      → option_and_then (put_on more) (items_read most item left) ≡ option_and_then (put_on state) (items_read (suc most) item rest)
  unfolding go after_first
  next_item more left e = by first e ∙ sym goes
    where
      joined : (part : List ℕ) (o : Option (List ℕ × List ℕ))
          → option_and_then (put_on (pushed_bytes state part)) o ≡ option_and_then (put_on state) (o >>= λ others. Some (part ++ others.0, others.1))
      joined part None = refl
      joined part (Some others) = ap (λ (s : List ℕ × ℕ). Some (s, others.1)) (sym (pushed_bytes-append state part others.0))

      by : (o : Option (List ℕ × List ℕ)) → Some (more, left) ≡ option_and_then (put_on state) o
          → option_and_then (put_on more) (items_read most item left) ≡ go o
      by None p = cc
      by (Some read) p =
          let same = some_pair (more, left) (pushed_bytes state read.0, read.1) p in
          (λ i. option_and_then (put_on (same.0 i)) (items_read most item (same.1 i))) ∙ joined read.0 (items_read most item read.1)
