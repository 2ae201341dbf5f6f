-- `next` picks a count that is one more, and leaves the one that it is given.
use Rattle.std.proofs.Common.{List, [], refl, ◌++◌, ◌+◌, ◌∷◌}
use Rattle.std.proofs.raw_atomic.Walks.{proved_at}
use mir.Val.{Val, vptr}
use contract.Running.{tables}
use prog.Wp.{WpFn}
use types.Kit.{raw, ‵, ◌⊛◌, prop, ◌$◌, ◌∵◌, !, qed, done, keep, split, fsplit, drop, move, fjoin, feq_l, regoal, suffices}
use types.Part.{agg}
use types.Run.{enter, returns, no_more}
use types.ByLocal.{alloc_all, pass_all, free_all, look_at, sets}
use denote.Builtin.{RefOf}
use denote.Exit.{yes}
use denote.RattleType.{owns}
use denote.Signature.{plain, types_at}
use denote.Steps.{nothing}
use denote.Triple.Entry.{alive}
use denote.Triple.Walked.{Stays, says, stay_dropped, walk_of, ends_at, Goes-dropped}
use Rattle.uefi_text.proofs.ReadCounts.{none, none_made}
use Rattle.uefi_text.specs.contracts.counted_reads.ReadCount as ReadCount
use Rattle.uefi_text.specs.contracts.counted_reads.ReadCount.next as f
use Rattle.uefi_text.proofs.counted_reads.ReadCount.next.Statement.{statement}
use Rattle.uefi_text.proofs.counted_reads.ReadCount.next.Code as code

abbrev stayed : Stays f.ended.signature.params f.ended.kept
stayed = (stay_dropped _ yes, tt)

pub next_spec : {M : Type 1} → statement M
next_spec 𝓤 𝓛 𝓜 𝓡 wired =
    let c = f.clauses 𝓛 𝓜.mem 𝓡.returns in
    let W = walk_of 𝓛 f.ended stayed c in
    let 𝓣 = tables 𝓤 𝓛.H 𝓜 𝓡 𝓡.env in
    let given = RefOf (0 ∷ []) tt (plain (λ _. ReadCount.the_row)) (λ _. tt) in
    proved_at 𝓛 f.ended stayed c 𝓜 𝓡 (Goes-dropped 𝓛 1 given yes (λ κs x w. refl), tt)
    f.Key.name code.function (code.unfolded 𝓤 𝓛.H 𝓜 𝓡 wired) (λ y are.
    let count = y.0.3.0 in
    let at = vptr count.ref_ptr.0 count.ref_ptr.1 in
    qed 𝓛 ((raw (alive 𝓛 f.signature y.0.0 y.0.1) ⊛ ‵ (owns (types_at f.signature.params y.0.0) y.0.3 y.0.4))
    ∷ raw ((c y.0.0 y.0.3).requires y.1) ∷ []) ∵
    keep ! (0 ∷ []) $ split ! $ move ! (1 ∷ []) $ fsplit ! $ fsplit ! $ feq_l ! (λ same. drop ! $ drop ! $
    regoal ! (λ (vs : List Val). prop (WpFn 𝓤 𝓛.H 𝓣.C 𝓣.Λ code.function (vs ++ []) (W.post y))) same refl $
    enter ! _ _ _ (at ∷ []) _ $ alloc_all ! (λ l. pass_all ! refl ((tt, tt), tt) $
    sets ! (agg ! (no_more !)) refl (tt, tt) $
    nothing ! $ none_made ! $ fjoin ! $
    returns ! (look_at ! 0 refl) $ free_all ! refl $
    suffices ! _ (ends_at 𝓛 f.ended stayed c y none (record { number = count.now.number + 1 }) (tt, tt) (tt, tt)) $
    says ! refl $ nothing ! $ nothing ! $ fjoin ! $ move ! (2 ∷ 0 ∷ 1 ∷ []) $ done !)))
