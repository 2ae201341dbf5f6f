-- `none` picks no bytes.
use Rattle.std.proofs.Common.{[], refl, ◌∷◌}
use Rattle.std.proofs.raw_atomic.Walks.{proved}
use types.Kit.{raw, ‵, ◌⊛◌, ◌$◌, ◌∵◌, !, qed, done, keep, split, drop, move, fjoin, suffices}
use types.Part.{agg}
use types.Run.{enter, returns, no_more}
use types.ByLocal.{alloc_all, pass_all, free_all, look_at, sets}
use denote.Steps.{nothing}
use denote.RattleType.{owns}
use denote.Signature.{types_at}
use denote.Triple.Entry.{alive}
use denote.Triple.Walked.{Stays, says, walk_of, ends_at}
use Rattle.uefi_text.proofs.ReadCounts.{none, none_made}
use Rattle.uefi_node_steps.specs.contracts.head.Seen.none as f
use Rattle.uefi_node_steps.proofs.head.Seen.none.Statement.{statement}
use Rattle.uefi_node_steps.proofs.head.Seen.none.Code as code

abbrev stayed : Stays f.ended.signature.params f.ended.kept
stayed = tt

pub none_spec : {M : Type 1} → statement M
none_spec 𝓤 𝓛 𝓜 𝓡 wired =
    let c = f.clauses 𝓛 𝓜.mem 𝓡.returns in let W = walk_of 𝓛 f.ended stayed c in
    proved 𝓛 f.ended stayed c 𝓜 𝓡 tt f.Key.name code.function (code.unfolded 𝓤 𝓛.H 𝓜 𝓡 wired)
    (λ κs. tt) (λ κs. tt) (λ κs qs bounds a n are.
    let y : W.Ghost = ((κs, qs, bounds, a, tt), n) in
    qed 𝓛 ((raw (alive 𝓛 f.signature κs qs) ⊛ ‵ (owns (types_at f.signature.params κs) a tt))
    ∷ raw ((c κs a).requires n) ∷ []) ∵
    keep ! (0 ∷ []) $ split ! $ move ! (1 ∷ []) $ drop ! $
    enter ! _ _ _ _ _ $ alloc_all ! (λ l. pass_all ! refl tt $
    sets ! (agg ! (no_more !)) refl (tt, tt) $
    nothing ! $ none_made ! $ fjoin ! $
    returns ! (look_at ! 0 refl) $ free_all ! refl $
    suffices ! _ (ends_at 𝓛 f.ended stayed c y none (record { bytes = [] }) tt tt) $ says ! refl $
    nothing ! $ move ! (2 ∷ 0 ∷ 1 ∷ []) $ done !))
