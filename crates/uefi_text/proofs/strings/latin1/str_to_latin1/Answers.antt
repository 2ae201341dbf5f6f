-- The characters of the text are read one by one, and each is a byte.
use Rattle.std.proofs.Common.{◌≡◌, ℕ, ◌+◌, ◌<◌, ◌∙◌, ap, List, [], ◌∷◌, ◌++◌, length, take, drop, replicate, get_or, set, suc, append_assoc, add-one, drop-cons, arith}
use Rattle.std.specs.List.{enumerate_from}
use Rattle.std.specs.Str.{chars}
use Rattle.std.proofs.lemmas.Grind.{common_steps}
use Rattle.std.proofs.lemmas.Iterator.{YieldsList-from_chars}
use Rattle.std.proofs.lemmas.Iterator.Consumers.{YieldsList-end, YieldsList-from_enumerate, YieldsList-turn}
use Rattle.std.proofs.lemmas.List.{get_or_read, length-take-le, length_push, set_at, take_more}
use Rattle.std.proofs.lemmas.List.FromFn.{get_or-enumerate_from, length-enumerate_from}
use Rattle.uefi_text.proofs.strings.latin1.str_to_latin1.Goals as goal

-- the next character has the next place
next_char : (cs : List ℕ) (n place c : ℕ)
    → (n < length (enumerate_from 0 cs)) × ((place, c) ≡ get_or (enumerate_from 0 cs) n (place, c))
    → (n < length cs) × (place ≡ n) × (c ≡ get_or cs n 0)
next_char cs n place c next =
    let inside : n < length cs = rw length-enumerate_from at next.0 in
    let item = next.1 ∙ get_or-enumerate_from 0 cs n (place, c) inside in
    let same_place : place ≡ 0 + n = ap (λ (i : ℕ × ℕ). i.0) item in
    (inside, omega arith, get_or_read cs n c inside (ap (λ (i : ℕ × ℕ). i.1) item) 0)

-- one character more was written
written_more : (cs old bytes : List ℕ) (n c : ℕ) → n < length cs → n < length old → c ≡ get_or cs n 0
    → bytes ≡ take n cs ++ drop n old → set bytes n c ≡ take (n + 1) cs ++ drop (n + 1) old
written_more cs old bytes n c in_text in_bytes is so_far =
    rw (so_far, drop-cons old n 0, take_more cs n 0 in_text, append_assoc, ← is, add-one)
    (set_at (take n cs) (get_or old n 0) (drop (suc n) old) c n (length-take-le n cs (omega arith)))

-- all were
written_all : (cs bytes : List ℕ) (n len : ℕ) → n ≡ length cs → length cs + 1 ≡ len
    → bytes ≡ take n cs ++ drop n (replicate len 0) → bytes ≡ cs ++ 0 ∷ []
written_all cs bytes n len all fits so_far = grind (arith, common_steps)

next : (g : _) (c : goal.After-char_told-1 g) → (length c.loop-place.yielded < length (chars c.args.s.now))
    × (c.in-Some.place ≡ length c.loop-place.yielded) × (c.in-Some.character ≡ get_or (chars c.args.s.now) (length c.loop-place.yielded) 0)
next g c =
    next_char (chars c.args.s.now) _ _ _
    (YieldsList-turn (YieldsList-from_enumerate (YieldsList-from_chars c.args.s.now c.utf8.s cc) cc) c.loop-place.yielded _ c.loop-place.yielded_by _ _ _ c.in-Some.is c.next.ensures.steps)

pub overflow_cast-bytes : goal.overflow_cast-bytes
overflow_cast-bytes g c =
    let latin1 = c.requires.latin1 _ 0 (next g c).0 in
    let same = (next g c).2 in
    omega arith

pub bounds-bytes-place : goal.bounds-bytes-place
bounds-bytes-place g c = omega (arith, next g c)

pub loop-place-preserved : goal.loop-place-preserved
loop-place-preserved g c =
    let read = next g c in
    let more =
    written_more (chars c.args.s.now) _ c.loop-place.bytes _ c.in-Some.character read.0 (grind (arith, common_steps)) read.2 c.loop-place.invariant in
    simp (length_push, read.1) more

pub returns : goal.returns
returns g c =
    let cs = chars c.args.s.now in
    let end =
    YieldsList-end
    (YieldsList-from_enumerate (YieldsList-from_chars c.args.s.now c.utf8.s cc) cc) c.loop-place.yielded _ c.loop-place.yielded_by _ _ c.in-None.is c.next.ensures.steps in
    let all : length c.loop-place.yielded ≡ length cs = end.1 ∙ length-enumerate_from 0 cs in
    written_all cs c.loop-place.bytes _ g.row.N all c.requires.fits c.loop-place.invariant
