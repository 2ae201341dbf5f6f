-- Each parent is followed by its own.
use Rattle.std.proofs.Common.{◌≡◌, ◌∙◌, ◌++◌, [], ◌∷◌, List, Option, ℕ, ap, append_assoc, length, sym, arith}
use Rattle.std.proofs.lemmas.Grind.{common_steps}
use Rattle.uefi_path.specs.SuccessiveParents.{parent_chain, parents_of}
use Rattle.upath.proofs.ParentWalks.{fewer_left, most_left}
use Rattle.upath.proofs.path_commands.all_parents.Goals as goal

pub loop-next-smaller : goal.loop-next-smaller
loop-next-smaller g c =
    omega (
      arith,
      fewer_left c.in_ok-next-2.next (length c.in-Some.parent) c.in_ok-next-2.ensures.shorter,
      ap most_left c.in-Some.is,
    )

pub loop-next-preserved : goal.loop-next-preserved
loop-next-preserved g c =
    let so_far = c.loop-next.parents.items in
    let parent = c.in-Some.parent in
    let after = c.in_ok-next-2.next in
    ap (λ (ps : List (List ℕ)). ps ++ parent_chain after) c.in_ok-push.ensures.items
    ∙ append_assoc so_far (parent ∷ []) (parent_chain after)
    ∙ ap (λ (ps : List (List ℕ)). so_far ++ parent ∷ ps) (sym c.in_ok-next-2.ensures.successive)
    ∙ ap (λ (next : Option (List ℕ)). so_far ++ parent_chain next) (sym c.in-Some.is)
    ∙ c.loop-next.invariant

pub returns-clause-parents : goal.returns-clause-parents
returns-clause-parents g c =
    let all : c.loop-next.parents.items ≡ parents_of c.args.path.now = grind (arith, common_steps) in
    (c.parent_count.ensures.same c.args.path.now c.loop-next.parents.items).1 all

pub returns-clause-prefixes : goal.returns-clause-prefixes
returns-clause-prefixes g c valid =
    (c.parents_enumerate.ensures c.args.path.now c.loop-next.parents.items valid).0
    (returns-clause-parents g c)
