-- What a chain of adapters, or a call that takes an iterator, reads of it: what its calls of `next` gave.
use Rattle.std.specs.Prelude.{◌≡◌, ◌≢◌, ◌<◌, ◌^◌, ℕ, List, Option, length, map, take}
use Rattle.std.specs.Iterator.{YieldsFirstBy}
use Rattle.std.specs.Iterator.Adapters.{copied_source, copied_steps}
use Rattle.std.specs.Iterator.Runs.{AllItems, EachRunFrom, EveryRun, ItemsMapTo}
use Rattle.std.specs.Slice.Iter.{iter_rest, iter_steps}

-- each run of calls from here gives the items of `left` in order, each seen by `view`: as many as
-- there were calls, or all items if the run reached the end
abbrev pub GivesEach : {S A B : Type 0} → (A → B) → (S → List B) → S → Type 0
GivesEach view left here =
    EachRunFrom (YieldsFirstBy view left) here (λ run.
    ItemsMapTo run view (left here) × (map view run.items ≡ take run.len (left here)))

-- an iterator gives exactly this list in order, and the list's length is a `usize`
abbrev pub GivesAll : {S A B : Type 0} → (A → B) → (S → List B) → S → List B → Type 0
GivesAll view left here items = (left here ≡ items) × (length (left here) < 2 ^ 64) × GivesEach view left here

-- no run of calls from here gives a NUL
abbrev pub GivesNoNul : {S : Type 0} → (S → Option ℕ → S → Type 0) → S → Type 0
GivesNoNul steps here = EachRunFrom steps here (λ run. AllItems run (λ c. c ≢ 0))

-- no run of copied items gives a NUL, from any position of the slice's iterator
abbrev pub CopiesNoNul : List ℕ → Type 0
CopiesNoNul characters = EveryRun (copied_steps (iter_steps {A = ℕ})) (λ run.
    iter_rest (copied_source run.from) ≡ characters → AllItems run (λ c. c ≢ 0))
