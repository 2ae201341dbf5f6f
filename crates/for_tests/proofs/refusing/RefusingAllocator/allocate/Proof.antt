-- `allocate` returns `Err` where `refuses` says so, and else what the inner allocator returns.
use Rattle.std.proofs.Common.{ℕ, ◌+◌, Bool, true, false, [], ◌∷◌, Ok, Err, refl, ap, w64}
use Rattle.std.proofs.raw_atomic.Walks.{proved, leaves}
use Rattle.std.proofs.alloc.Calls.{Al, α, token, Answer, answer_val, Answer-typed, Answer-Ok, Answer-err, Takes, at_takes, Answered, Takes-goes, Takes-gives, answers}
use Rattle.std.proofs.alloc.Shapes.{after}
use Rattle.std.specs.Allocator.{HasLayout, block_if_ok}
use base.Logic.{ent, emp, id⊢}
use base.Fml.{ftrue, flft}
use prog.Memory.{align, size, up}
use mir.Syntax.{Args, Fn, a_type, dnil, dcons, named}
use mir.Val.{Val, vptr}
use mir.MapTy.{inst_fn}
use contract.BorrowLft.{◌⊑◌, ⊑_trans}
use contract.Monad.{fact}
use contract.Running.{tables}
use types.Logic.{sem}
use types.Kit.{Item, ‵, raw, ◌⊛◌, some, later, prop, at_ret, Sq, ◌$◌, ◌∵◌, !, qed, done, move}
use types.Kit.{keep, drop, use0, use1, use2, split, join, group, fsplit, fjoin, feq_i, feq_l, pick, await, suffices, frame}
use types.Part.{agg}
use types.Run.{enter, addr, fld, stop, lit, and_then, no_more, first, branches, skips, exec, returns, returns_within}
use types.ByLocal.{alloc_all, pass_all, free_all, look_at, get, through, sets, lands_as, env}
use denote.Builtin.{bool, usize, RefOf}
use denote.Exit.{yes}
use denote.Opens.{unhide, hide}
use denote.Param.{bounded, param}
use denote.Plain.{uint_vals, uint_Tells}
use denote.RattleType.{RattleType, owns}
use denote.RawPtr.{block_ptr}
use denote.Ref.{shr_vals, shr_Tells}
use denote.Signature.{plain, types_at}
use denote.Steps.{heard, nothing, only}
use denote.Triple.Call.{calls_at}
use denote.Triple.Clauses.{lasts}
use denote.Triple.Spec.{triple_of}
use denote.Triple.Table.{framed}
use denote.Triple.Walked.{Stays, stay_dropped, walk_of, Goes-dropped}
use Rattle.for_tests.specs.contracts.refusing.Refusing.{the_row}
use Rattle.for_tests.specs.contracts.refusing.RefusingAllocator.allocate as f
use Rattle.for_tests.proofs.refusing.RefusingAllocator.allocate.Statement.{statement}
use Rattle.for_tests.proofs.refusing.RefusingAllocator.allocate.Code as code
use Rattle.for_tests.specs.contracts.refusing.refuses as refuses
use Rattle.for_tests.proofs.refusing.refuses.Met.{met as refuses_met}

pub allocate_spec : {M : Type 1} → statement M
allocate_spec 𝓤 𝓛 𝓜 𝓡 wired B laws g d dd met _ =
    let Z : Al = record { row = B; laws = laws; g = g; d = d; drops = dd } in
    let args : Args = bounded (a_type ∷ []) (B, tt) (dcons d (dcons dd dnil)) in
    let fn : Fn = inst_fn args code.function in
    let R : RattleType = the_row (param 0 B) in
    let T = f.ended B g d dd in let c = f.clauses B g d dd 𝓛 𝓜.mem 𝓡.returns in let 𝓣 = tables 𝓤 𝓛.H 𝓜 𝓡 𝓡.env in
    let stayed : Stays T.signature.params T.kept = (stay_dropped _ yes, (stay_dropped _ yes, (stay_dropped _ yes, tt))) in
    let W = walk_of 𝓛 T stayed c in
    let number = Goes-dropped 𝓛 2 (plain (λ _. usize)) yes (λ κs x w. refl) in
    proved 𝓛 T stayed c 𝓜 𝓡
    (Goes-dropped 𝓛 2 (RefOf (0 ∷ []) tt (plain (λ _. R)) (λ _. tt)) yes (λ κs x w. refl), (number, (number, tt)))
    (f.Key.name args) fn (code.unfolded 𝓤 𝓛.H 𝓜 𝓡 wired (B, tt) d dd)
    (λ κs. (shr_vals, (uint_vals w64, (uint_vals w64, tt))))
    (λ κs. (shr_Tells (named 0) κs.0 R, (uint_Tells w64, (uint_Tells w64, tt))))
    (λ κs qs bounds a τ are.
    let κ = κs.0 in let q = qs.0 in let self = a.0 in let h = self.now.inner in let n = a.1.0 in let al = a.1.1.0 in
    let n_fits = are.1.0.1 in let al_fits = are.1.1.0.1 in
    let y : W.Ghost = ((κs, qs, bounds, a, (shr_vals self, (uint_vals w64 n, (uint_vals w64 al, tt)))), τ) in
    -- where the two fields lie
    let at : ℕ → ℕ × ℕ = λ k. (self.ref_ptr.0, self.ref_ptr.1 + k) in
    let inner = at (up (align (α Z)) 0) in
    let left = at (up 8 (up (align (α Z)) 0 + size (α Z))) in
    -- the end of the walk, at any result and at `Err`
    let others : Item 𝓤 = ‵ (flft κs.1.0 qs.1.0) ⊛ ‵ ftrue in
    let answers_with : (v : Val) (r : Answer.Denot) → ent 𝓤 (emp 𝓤) (sem 𝓛 (Answer.own_val r (v ∷ [])))
    → Sq 𝓛 (‵ (flft κ q) ∷ others ∷ ‵ (block_if_ok (token Z h) τ r) ∷ []) (prop (W.post y v)) = λ v r made.
    suffices ! _ (leaves 𝓛 T stayed c y v r (tt, (tt, (tt, tt))) (tt, (tt, (tt, tt)))) $ join ! $ frame ! $
    nothing ! $ nothing ! $ nothing ! $ nothing ! $ group ! 4 $ frame ! $ use0 𝓛 (‵ (Answer.own_val r (v ∷ []))) made $ frame ! $ done ! in
    let refused : Sq 𝓛 (‵ (flft κ q) ∷ others ∷ []) (prop (W.post y (answer_val false 0 0))) =
    nothing ! $ move ! (1 ∷ 2 ∷ []) $ answers_with (answer_val false 0 0) (Err (record {})) (Answer-err 𝓛) in
    qed 𝓛 (((‵ (flft κ q) ⊛ others) ⊛ ‵ (owns (types_at T.signature.params κs) a y.0.4))
    ∷ (raw (fact 𝓤 (κs.1.0 ⊑ B.lives)) ⊛ raw (fact 𝓤 (HasLayout τ n al))) ∷ []) ∵
    -- `self` borrows both fields
    split ! $ split ! $ move ! (2 ∷ []) $ fsplit ! $ fsplit ! $ move ! (1 ∷ []) $ unhide ! $ fsplit ! $
    fsplit ! $ hide ! $ move ! (1 ∷ []) $ fsplit ! $ hide ! $
    keep ! (8 ∷ 0 ∷ 6 ∷ 2 ∷ 7 ∷ []) $ split ! $ heard ! _ (λ lives. heard ! _ (λ laid.
    -- [the `&` to the counter; the token of κ; the `&` to the inner allocator; the other tokens]
    enter ! _ _ _ _ _ $ alloc_all ! (λ l. pass_all ! refl ((tt, tt), ((tt, record { fits = n_fits }), ((tt, record { fits = al_fits }), tt))) $
    sets ! (addr ! (through ! refl (fld ! refl (stop !)))) refl (tt, tt) $
    let C = triple_of 𝓛 refuses.signature (refuses.spec 𝓛 𝓜.mem 𝓡.returns) in
    let x : C.Ghost = (((κ, tt), (q, tt), tt, (record { ref_ptr = left; now = self.now.left }, tt), (vptr left.0 left.1 ∷ [], tt)), tt) in
    feq_i ! _ (vptr left.0 left.1 ∷ []) _ refl $ fjoin ! $ nothing ! $ move ! (1 ∷ 0 ∷ []) $ join ! $
    nothing ! $ move ! (2 ∷ 0 ∷ []) $ join ! $ join ! $ nothing ! $ move ! (1 ∷ 0 ∷ []) $ use2 𝓛 (raw (C.pre x)) (id⊢ 𝓤 _) $
    calls_at ! (framed 𝓤 𝓛.H 𝓜 𝓣) C (refuses_met 𝓤 𝓛 𝓜 𝓡 (code.calls-for_tests::refusing::refuses 𝓡.env wired)) x
    (and_then ! (get ! refl) (no_more !)) (λ v.
    use1 𝓛 (later (some (λ (r : Bool). ((‵ (flft κ q) ⊛ ‵ ftrue) ⊛ ‵ (bool.own_val r (v ∷ []))) ⊛
    some (λ (ws : Unit {0} × Unit {0}). ‵ (lasts refuses.ended x.0.0 x.0.3 ws) ⊛ ‵ ftrue)))) (id⊢ 𝓤 _) $
    await ! tt $ pick ! (λ r. split ! $ move ! (1 ∷ []) $ drop ! $ split ! $ split ! $ move ! (1 ∷ 2 ∷ []) $ drop ! $ feq_l ! (λ is_bool.
    lands_as ! (ap only is_bool) refl (tt, tt) $
    -- [the token of κ; the `&` to the inner allocator; the other tokens]
    first ! $ branches ! (get ! refl)
    (λ hit. sets ! (agg ! (no_more !)) refl (tt, tt) $
    sets ! (agg ! (and_then ! (lit ! tt) (and_then ! (get ! refl) (no_more !)))) refl (Answer-typed false 0 0) $
    returns_within ! (W.post y) refl (look_at ! 0 refl) $ free_all ! refl $ keep ! (0 ∷ 2 ∷ []) $ refused)
    (λ miss. skips ! $ exec ! 𝓣.C 𝓣.Λ (env fn.locals l) (after 3 fn.body) (at_ret _ (W.post y)) $
    sets ! (addr ! (through ! refl (fld ! refl (stop !)))) refl (tt, tt) $ move ! (1 ∷ 0 ∷ []) $
    let A = Takes Z 𝓛 𝓜.mem 𝓡.returns in let z : A.Ghost = at_takes Z 𝓛 𝓜.mem 𝓡.returns κ q inner h n al τ in
    let lives_on : κ ⊑ B.lives = ⊑_trans κ κs.1.0 B.lives bounds.0 lives in
    use2 𝓛 (raw (A.pre z)) (Takes-goes Z 𝓛 𝓜.mem 𝓡.returns κ q inner h lives_on n al τ laid.0 laid.1 n_fits al_fits) $
    calls_at ! (framed 𝓤 𝓛.H 𝓜 𝓣) A (met.allocate dd) z (and_then ! (get ! refl) (and_then ! (get ! refl) (and_then ! (get ! refl) (no_more !)))) (λ u.
    use1 𝓛 (later (raw (Answered Z 𝓛 𝓜.mem 𝓡.returns h τ u) ⊛ ‵ (flft κ q))) (Takes-gives Z 𝓛 𝓜.mem 𝓡.returns κ q inner h n al τ u) $
    await ! tt $ split ! $ answers Z ! 𝓜.mem 𝓡.returns h τ u
    (λ b o is_ok. fjoin ! $ move ! (1 ∷ 2 ∷ 0 ∷ []) $ lands_as ! is_ok refl (Answer-typed true b o) $
    returns ! (look_at ! 0 refl) $ free_all ! refl $ answers_with (answer_val true b o) (Ok (block_ptr b o)) (Answer-Ok 𝓛 b o))
    (λ is_err. lands_as ! is_err refl (Answer-typed false 0 0) $ returns ! (look_at ! 0 refl) $ free_all ! refl $ refused))))))))))
