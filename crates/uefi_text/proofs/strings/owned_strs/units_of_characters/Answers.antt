use Rattle.std.proofs.Common.{◌≡◌, ◌∙◌, ◌++◌, [], ◌∷◌, arith}
use Rattle.std.proofs.lemmas.List.{take_all, take_more}
use Rattle.std.proofs.lemmas.List.Elements.{All-push}
use Rattle.uefi_text.specs.Units.{IsChar16}
use Rattle.uefi_text.proofs.strings.owned_strs.units_of_characters.Goals as goal

pub loop-c-preserved : goal.loop-c-preserved
loop-c-preserved g c =
    let so_far = c.loop-c.invariant in
    let grown : c.push.new.self.items ≡ c.loop-c.units.items ++ c.from.result ∷ [] = c.in_ok-push.ensures.items in
    let more = take_more c.args.characters.now c.loop-c.c-index c.c-item.result c.loop-c-test.true in
    record {
      added = rw (grown, so_far.added, more, c.from.ensures.0, ← c.c-item.is);
      are_characters = rw grown (All-push IsChar16 _ _ so_far.are_characters (rw c.from.ensures.0 c.from.ensures.1));
    }

pub returns-clause-same : goal.returns-clause-same
returns-clause-same g c = c.loop-c.invariant.added ∙ take_all c.loop-c.c-index c.args.characters.now (omega arith)
