use Rattle.std.proofs.Common.{ap, arith, drop, length, length-drop, subst, ◌∙◌, ◌<◌, ◌≤◌, ◌↔◌, IsTrue, []}
use Rattle.std.proofs.lemmas.Bool.{false≢true}
use Rattle.std.specs.List.{slice_index}
use Rattle.uefi_text.specs.PatternParts.{Refuses, TakesOne, IsPart}
use Rattle.uefi_text.specs.declared.patterns.Part.{Part}
use Rattle.uefi_text.specs.Patterns.{Matches}
use Rattle.uefi_text.specs.Views.{read_units}
use Rattle.uefi_text.proofs.SearchCosts.{left, star_cost, unit_cost, back_cost}
use Rattle.uefi_text.proofs.GreedySearch.{tried, within_at, within_more}
use Rattle.uefi_text.proofs.SearchSteps.{at_end, back_step, refused, star_step, star_there, unit_step}
use Rattle.uefi_text.proofs.counted_reads.CountedReader.matches.Goals as goal

pub searching-preserved-in-Star : goal.searching-preserved-in-Star
searching-preserved-in-Star c =
    let there = star_there (read_units c.args.pattern.now) c.searching.at
    (subst (λ us. IsPart Part.Star (drop c.searching.at us) c.get-unit.result) c.searching.invariant.pattern c.in-Star.ensures.part) in
    let cost = c.in-Star.ensures.cost in
    let inside = there.0 in
    record {
      text = c.get-unit.ensures.units ∙ c.searching.invariant.text;
      pattern = c.in-Star.ensures.units ∙ c.searching.invariant.pattern;
      in_pattern = omega (arith, inside);
      in_text = c.searching.invariant.in_text;
      star = (omega (arith, inside), omega arith);
      search = star_step (read_units c.args.pattern.now) (read_units c.args.self.now) c.searching.at c.searching.place c.searching.star c.searching.invariant.search
          there.0 there.1;
      text_reads = omega (arith, star_cost _ _ _ _ _ _ c.searching.star c.searching.invariant.star there.0 c.searching.invariant.text_reads);
      pattern_reads = omega (arith, cost, star_cost _ _ _ _ _ _ c.searching.star c.searching.invariant.star there.0 c.searching.invariant.pattern_reads);
    }

pub searching-preserved-in-Takes : goal.searching-preserved-in-Takes
searching-preserved-in-Takes c =
    let us = read_units c.args.pattern.now in
    let part = c.in-Takes.ensures.part in
    let some = part.0 in
    let fits = part.1 in
    let width = ap (λ us. length (drop c.searching.at us)) c.searching.invariant.pattern ∙ length-drop c.searching.at us in
    let inside : c.searching.place < length (read_units c.args.self.now) = omega (arith, ap length c.searching.invariant.text) in
    let unit = c.get-unit.ensures.unit ∙ ap (λ us. slice_index us c.searching.place) c.searching.invariant.text in
    record {
      text = c.get-unit.ensures.units ∙ c.searching.invariant.text;
      pattern = c.in-Takes.ensures.units ∙ c.searching.invariant.pattern;
      in_pattern = omega (arith, fits, width);
      in_text = omega (arith, inside);
      star = within_more c.searching.star _ _ c.searching.invariant.star;
      search = unit_step us (read_units c.args.self.now) c.searching.at c.searching.place c.in-Takes.n c.searching.star c.searching.invariant.search
          inside (subst (λ u. TakesOne (drop c.searching.at us) (drop c.in-Takes.n (drop c.searching.at us)) u) unit
          (subst (λ us. TakesOne (drop c.searching.at us) (drop c.in-Takes.n (drop c.searching.at us)) c.get-unit.result) c.searching.invariant.pattern part.2));
      text_reads = unit_cost _ _ _ _ _ _ _ (omega (arith, fits, width)) (omega (arith, some)) c.searching.invariant.text_reads;
      pattern_reads = unit_cost _ _ _ _ _ _ _ (omega (arith, fits, width)) c.in-Takes.ensures.cost c.searching.invariant.pattern_reads;
    }

pub searching-preserved : goal.searching-preserved
searching-preserved c =
    let us = read_units c.args.pattern.now in
    let cost = c.in-Refuses.ensures.cost in
    let within = within_at c.searching.star c.in-Some.last _ _ c.in-Some.is c.searching.invariant.star in
    let width = ap (λ us. length (drop c.searching.at us)) c.searching.invariant.pattern ∙ length-drop c.searching.at us in
    let inside : c.searching.place < length (read_units c.args.self.now) = omega (arith, ap length c.searching.invariant.text) in
    let unit = c.get-unit.ensures.unit ∙ ap (λ us. slice_index us c.searching.place) c.searching.invariant.text in
    record {
      text = c.get-unit.ensures.units ∙ c.searching.invariant.text;
      pattern = c.in-Refuses.ensures.units ∙ c.searching.invariant.pattern;
      in_pattern = within.0;
      in_text = omega (arith, inside, within.1);
      star = (within.0, omega arith);
      search = back_step us (read_units c.args.self.now) c.searching.at c.searching.place c.searching.star c.in-Some.last c.searching.invariant.search c.in-Some.is
          inside (subst (λ u. Refuses (drop c.searching.at us) u) unit
          (subst (λ us. Refuses (drop c.searching.at us) c.get-unit.result) c.searching.invariant.pattern c.in-Refuses.ensures.part));
      text_reads = omega (
        arith,
        back_cost _ _ _ _ _ 1 _ c.searching.star c.in-Some.last c.in-Some.is within.1 inside c.searching.invariant.in_pattern
            (omega (arith, c.searching.invariant.in_pattern)) c.searching.invariant.text_reads,
      );
      pattern_reads = omega (
        arith,
        cost,
        back_cost _ _ _ _ _ (length (drop c.searching.at (read_units c.searching.pattern))) _ c.searching.star c.in-Some.last
            c.in-Some.is within.1 inside c.searching.invariant.in_pattern (omega (arith, width, c.searching.invariant.in_pattern)) c.searching.invariant.pattern_reads,
      );
    }

pub returns-clause-matches : goal.returns-clause-matches
returns-clause-matches c =
    let past : length (read_units c.args.self.now) ≤ c.searching.place = omega (arith, ap length c.searching.invariant.text) in
    at_end (read_units c.args.pattern.now) (read_units c.args.self.now) c.searching.at c.searching.place c.searching.star c.matches_nothing.result
    c.searching.invariant.search past
    (subst (λ us. IsTrue c.matches_nothing.result ↔ Matches (drop c.searching.at us) []) c.searching.invariant.pattern c.matches_nothing.ensures.matches)

-- the counts of reads say that each step takes from what is left
pub searching-smaller-in-Star : goal.searching-smaller-in-Star
searching-smaller-in-Star c =
    let there = star_there (read_units c.args.pattern.now) c.searching.at
    (subst (λ us. IsPart Part.Star (drop c.searching.at us) c.get-unit.result) c.searching.invariant.pattern c.in-Star.ensures.part) in
    let text = length (read_units c.args.self.now) in
    let pattern = length (read_units c.args.pattern.now) in
    omega (arith, star_cost text pattern _ c.searching.at (left text pattern (tried c.searching.star) c.searching.at) 0 c.searching.star c.searching.invariant.star there.0 (omega arith))

pub searching-smaller : goal.searching-smaller
searching-smaller c =
    let text = length (read_units c.args.self.now) in
    let pattern = length (read_units c.args.pattern.now) in
    let within = within_at c.searching.star c.in-Some.last _ _ c.in-Some.is c.searching.invariant.star in
    let inside : c.searching.place < text = omega (arith, ap length c.searching.invariant.text) in
    omega (
      arith,
      back_cost text pattern _ c.searching.at 0 1 (left text pattern (tried c.searching.star) c.searching.at) c.searching.star c.in-Some.last
          c.in-Some.is within.1 inside c.searching.invariant.in_pattern (omega arith) (omega arith),
    )

pub returns-in_default-clause-matches : goal.returns-in_default-clause-matches
returns-in_default-clause-matches c =
    let us = read_units c.args.pattern.now in
    let inside : c.searching.place < length (read_units c.args.self.now) = omega (arith, ap length c.searching.invariant.text) in
    let unit = c.get-unit.ensures.unit ∙ ap (λ us. slice_index us c.searching.place) c.searching.invariant.text in
    let refuses = subst (λ u. Refuses (drop c.searching.at us) u) unit
    (subst (λ us. Refuses (drop c.searching.at us) c.get-unit.result) c.searching.invariant.pattern c.in-Refuses.ensures.part) in (
      λ is. absurd (false≢true is),
      λ m. absurd (refused us (read_units c.args.self.now) c.searching.at c.searching.place c.searching.star c.searching.invariant.search c.in_default.is inside refuses m),
    )
