-- `deallocate` hands the block to the inner allocator.
use Rattle.std.proofs.Common.{◌≡◌, ℕ, ◌+◌, [], ◌∷◌, refl, w64}
use Rattle.std.proofs.raw_atomic.Walks.{proved, leaves}
use Rattle.std.proofs.alloc.Calls.{Al, α, token, Gives, at_gives, Gives-goes, Gives-Gives}
use Rattle.std.specs.Allocator.{HasLayout, owned_block}
use base.Logic.{fst∗, never}
use base.Fml.{ftrue, flft}
use prog.Memory.{align, up}
use prog.Wp.{WpFn}
use mir.Syntax.{Args, Fn, a_type, dnil, dcons, named}
use mir.Val.{vunit}
use mir.MapTy.{inst_fn}
use contract.BorrowLft.{◌⊑◌, ⊑_trans}
use contract.Monad.{fact}
use contract.Running.{tables}
use types.Kit.{‵, raw, ◌⊛◌, later, given, prop, ◌$◌, ◌∵◌, !, qed, done, move, keep, use1, split, split3, join, group, fsplit, feq_i, learn, await, regoal, suffices, frame}
use types.Run.{enter, addr, fld, stop, of_opd, unit_lit, and_then, no_more, returns}
use types.ByLocal.{alloc_all, pass_all, free_all, look_at, get, through, sets, lands_as}
use types.Logic.{sem}
use denote.Builtin.{usize, RawPtr, RefOf}
use denote.Exit.{yes}
use denote.Opens.{unhide, hide}
use denote.Ref.{shr_vals, shr_Tells}
use denote.RattleType.{RattleType, owns, flat}
use denote.Param.{bounded, param}
use denote.Plain.{uint_vals, uint_Tells}
use denote.RawPtr.{Ptr, null_ptr, in_a_block, rawptr_vals, rawptr_Tells}
use denote.Signature.{plain, types_at}
use denote.Steps.{heard, nothing}
use denote.Triple.Call.{calls_at}
use denote.Triple.Table.{framed}
use denote.Triple.Walked.{Stays, stay_dropped, walk_of, Goes-dropped}
use Rattle.for_tests.specs.contracts.refusing.Refusing.{the_row}
use Rattle.for_tests.specs.contracts.refusing.RefusingAllocator.deallocate as f
use Rattle.for_tests.proofs.refusing.RefusingAllocator.deallocate.Statement.{statement}
use Rattle.for_tests.proofs.refusing.RefusingAllocator.deallocate.Code as code

pub deallocate_spec : {M : Type 1} → statement M
deallocate_spec 𝓤 𝓛 𝓜 𝓡 wired B laws g d dd met _ =
    let Z : Al = record { row = B; laws = laws; g = g; d = d; drops = dd } in
    let args : Args = bounded (a_type ∷ []) (B, tt) (dcons d (dcons dd dnil)) in
    let fn : Fn = inst_fn args code.function in
    let R : RattleType = the_row (param 0 B) in
    let T = f.ended B g d dd in let c = f.clauses B g d dd 𝓛 𝓜.mem 𝓡.returns in let 𝓣 = tables 𝓤 𝓛.H 𝓜 𝓡 𝓡.env in
    let stayed : Stays T.signature.params T.kept = (stay_dropped _ yes, (stay_dropped _ yes, (stay_dropped _ yes, (stay_dropped _ yes, tt)))) in
    let W = walk_of 𝓛 T stayed c in
    let number = Goes-dropped 𝓛 2 (plain (λ _. usize)) yes (λ κs x w. refl) in
    proved 𝓛 T stayed c 𝓜 𝓡
    (Goes-dropped 𝓛 2 (RefOf (0 ∷ []) tt (plain (λ _. R)) (λ _. tt)) yes (λ κs x w. refl), (Goes-dropped 𝓛 2 (plain (λ _. RawPtr)) yes (λ κs x w. refl), (number, (number, tt))))
    (f.Key.name args) fn (code.unfolded 𝓤 𝓛.H 𝓜 𝓡 wired (B, tt) d dd)
    (λ κs. (shr_vals, (rawptr_vals, (uint_vals w64, (uint_vals w64, tt)))))
    (λ κs. (shr_Tells (named 0) κs.0 R, (rawptr_Tells, (uint_Tells w64, (uint_Tells w64, tt)))))
    (λ κs qs bounds a τ are.
    let κ = κs.0 in let q = qs.0 in let self = a.0 in let h = self.now.inner in let n = a.1.1.0 in let al = a.1.1.1.0 in
    let n_fits = are.1.1.0.1 in let al_fits = are.1.1.1.0.1 in
    let vss : Ptr → _ = λ p. (shr_vals self, (rawptr_vals p, (uint_vals w64 n, (uint_vals w64 al, tt)))) in
    let y : W.Ghost = ((κs, qs, bounds, a, vss a.1.0), τ) in
    -- where the inner allocator lies
    let inner : ℕ × ℕ = (self.ref_ptr.0, self.ref_ptr.1 + up (align (α Z)) 0) in
    qed 𝓛 (((‵ (flft κ q) ⊛ ‵ (flft κs.1.0 qs.1.0) ⊛ ‵ ftrue) ⊛ ‵ (owns (types_at T.signature.params κs) a y.0.4))
    ∷ (raw (fact 𝓤 (κs.1.0 ⊑ B.lives)) ⊛ raw (fact 𝓤 (HasLayout τ n al)) ⊛ ‵ (owned_block (token Z h) τ a.1.0)) ∷ []) ∵
    -- `self` borrows its fields, of which the first is wanted
    split ! $ split ! $ move ! (2 ∷ []) $ fsplit ! $ fsplit ! $ move ! (1 ∷ []) $ unhide ! $ fsplit ! $ fsplit ! $ hide ! $
    keep ! (7 ∷ 0 ∷ 5 ∷ 6 ∷ []) $ split3 ! $ heard ! _ (λ lives. heard ! _ (λ laid.
    -- [the block; the `&` to the inner allocator; the token of κ; the other tokens]
    in_a_block ! a.1.0 (owned_block (token Z h) τ) (fst∗ 𝓤 (never 𝓤) (sem 𝓛 (token Z h τ null_ptr))) (λ b o e.
    regoal ! (λ (p : Ptr). prop (WpFn 𝓤 𝓛.H 𝓣.C 𝓣.Λ fn (flat (types_at T.signature.params κs) (vss p)) (W.post y))) e refl $
    enter ! _ _ _ _ _ $ alloc_all ! (λ l.
    pass_all ! refl ((tt, tt), ((tt, tt), ((tt, record { fits = n_fits }), ((tt, record { fits = al_fits }), tt)))) $
    sets ! (addr ! (through ! refl (fld ! refl (stop !)))) refl (tt, tt) $ fsplit ! $ group ! 4 $
    let D = Gives Z 𝓛 𝓜.mem 𝓡.returns in let z : D.Ghost = at_gives Z 𝓛 𝓜.mem 𝓡.returns κ q inner h b o n al τ in
    let lives_on : κ ⊑ B.lives = ⊑_trans κ κs.1.0 B.lives bounds.0 lives in
    use1 𝓛 (raw (D.pre z)) (Gives-goes Z 𝓛 𝓜.mem 𝓡.returns κ q inner h lives_on b o n al τ laid.0 laid.1 n_fits al_fits) $
    calls_at ! (framed 𝓤 𝓛.H 𝓜 𝓣) D (met.deallocate dd) z
    (and_then ! (get ! refl) (and_then ! (get ! refl) (and_then ! (get ! refl) (and_then ! (get ! refl) (no_more !))))) (λ v.
    use1 𝓛 (later (given (v ≡ vunit) (‵ (flft κ q)))) (Gives-Gives Z 𝓛 𝓜.mem 𝓡.returns κ q inner h b o n al τ v) $
    await ! tt $ learn ! (λ is_unit. lands_as ! is_unit refl (tt, tt) $
    sets ! (of_opd ! (unit_lit !)) refl (tt, tt) $ returns ! (look_at ! 0 refl) $ free_all ! refl $
    suffices ! _ (leaves 𝓛 T stayed c y vunit tt (tt, (tt, (tt, (tt, tt)))) (tt, (tt, (tt, (tt, tt))))) $ join ! $ frame ! $
    nothing ! $ nothing ! $ nothing ! $ nothing ! $ nothing ! $ group ! 5 $ frame ! $ feq_i ! _ (vunit ∷ []) _ refl $ frame ! $ nothing ! $ done !)))))))
