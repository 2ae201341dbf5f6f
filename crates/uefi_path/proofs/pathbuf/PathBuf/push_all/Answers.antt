-- Each block comes after those before it.
use Rattle.std.proofs.Common.{◌≡◌, ◌<◌, ◌≤◌, ◌∷◌, [], ◌++◌, ◌∙◌, append_assoc, ap, arith, Bool, true, false, if◌then◌else◌, length, List, ℕ, refl, subst, sym, take}
use Rattle.std.proofs.Math.Seq.{take-length}
use Rattle.std.specs.List.{slice_range}
use Rattle.std.proofs.lemmas.List.{append-nil, map-append, take_all, take_at}
use Rattle.uefi_path.specs.Pushing.{needs_separator}
use Rattle.uefi_path.specs.Separators.{separator, slash, with_separators}
use Rattle.uefi_path.specs.Views.{counted_text}
use Rattle.uefi_text.specs.Units.{replaced}
use Rattle.uefi_path.proofs.SeparatorPlaces.{ranges_joined}
use Rattle.uefi_path.proofs.pathbuf.PathBuf.push_all.Goals as goal

-- a text, with a separator after it or not
abbrev separated : Bool → List ℕ → List ℕ
separated is_missing text = if is_missing then text ++ separator ∷ [] else text

begins : (is_missing : Bool) (text more : List ℕ) → take (length text) (separated is_missing text ++ more) ≡ text
begins true text more = rw append_assoc (take_at text (separator ∷ more) (length text) refl)
begins false text more = take_at text more (length text) refl

is_appended : (is_missing : Bool) (text part : List ℕ)
    → separated is_missing text ++ part ≡ (if is_missing then text ++ separator ∷ part else text ++ part)
is_appended true text part = append_assoc text (separator ∷ []) part
is_appended false text part = refl

pub loop-i-preserved : goal.loop-i-preserved
loop-i-preserved g c =
    let us = counted_text c.args.units.now in
    let i = c.loop-i.i in
    let end = c.in_ok-i.i in
    let next = c.in_ok-i.ensures in
    let before = c.loop-i.invariant in
    let base = c.push_separator.new.self in
    let further : i < end = next.further in
    let joined : with_separators (take i us) ++ with_separators (slice_range us i end) ≡ with_separators (take end us) =
    sym (map-append (replaced slash separator) (take i us) (slice_range us i end))
    ∙ ap with_separators (ranges_joined us i end (omega (arith, further)) before.within) in
    record {
      within = subst (λ vs. end ≤ length vs) before.text next.within;
      made = grind (arith, append_assoc, us, i, end, next, before, base, joined);
      text = next.text ∙ before.text;
      count = omega (arith, next.once, before.count);
    }

pub loop-i-init : goal.loop-i-init
loop-i-init g c = record { within = omega arith; made = sym (append-nil _); text = refl; count = omega arith }

pub push_next-requires : goal.push_next-requires
push_next-requires g c = omega (arith, ap length c.loop-i.invariant.text)

pub returns-in_err-push_separator-clause-begins : goal.returns-in_err-push_separator-clause-begins
returns-in_err-push_separator-clause-begins g c =
    ap (take (length c.args.self.now)) c.in_err-push_separator.ensures.err ∙ take-length c.args.self.now

pub returns-in_err-i-clause-begins : goal.returns-in_err-i-clause-begins
returns-in_err-i-clause-begins g c =
    let text = c.args.self.now in
    let added = with_separators (take c.loop-i.i (counted_text c.args.units.now)) in
    let made = c.in_err-i.ensures.err ∙ c.loop-i.invariant.made ∙ ap (λ us. us ++ added) c.in_ok-push_separator.ensures.ok in
    ap (take (length text)) made ∙ begins (needs_separator text) text added

pub returns-in_err-i-clause-text : goal.returns-in_err-i-clause-text
returns-in_err-i-clause-text g c = c.in_err-i.ensures.text ∙ c.loop-i.invariant.text

pub returns-in_err-i-clause-at_most : goal.returns-in_err-i-clause-at_most
returns-in_err-i-clause-at_most g c =
    omega (arith, c.in_err-i.ensures.at_most, ap length c.loop-i.invariant.text, c.loop-i.invariant.count)

pub returns-clause-ok : goal.returns-clause-ok
returns-clause-ok g c =
    let text = c.args.self.now in
    let us = counted_text c.args.units.now in
    let all = take_all c.loop-i.i us (omega arith) in
    c.loop-i.invariant.made
    ∙ ap (λ vs. c.push_separator.new.self ++ with_separators vs) all
    ∙ ap (λ vs. vs ++ with_separators us) c.in_ok-push_separator.ensures.ok
    ∙ is_appended (needs_separator text) text (with_separators us)

pub returns-clause-begins : goal.returns-clause-begins
returns-clause-begins g c =
    let text = c.args.self.now in
    let added = with_separators (take c.loop-i.i (counted_text c.args.units.now)) in
    let made = c.loop-i.invariant.made ∙ ap (λ us. us ++ added) c.in_ok-push_separator.ensures.ok in
    ap (take (length text)) made ∙ begins (needs_separator text) text added
