-- The call makes a box of the block that the struct owns.
use Rattle.of_c.proofs.Steps.{◌≡◌, refl, sym, ap, ◌∙◌, subst, T, has_ty, WT, List, [], ◌∷◌, ◌++◌, Val, vptr, id⊢, ftrue, fsep, WpFn, fact, tables, ‵, raw, ◌⊛◌, some, later, prop, at_ret, ◌$◌, ◌∵◌, !, qed, done, keep, move, drop, use1, split, split3, join, fsplit, fjoin, feq_i, pick, await, rewrite, regoal, suffices, whole, sub, enter, of_opd, stop, fld, no_more, and_then, first, blocks, exec, returns, alloc_all, pass_all, free_all, look_at, get, get_in, sets, lands_last, env, yes, block_ptr, plain, nothing, heard, only, calls_at_last, triple_of, framed, walk_of, says, Stays, stay_dropped, Goes-dropped, ends_at, proved_at, D, B, box_ty, box_typed, box_out, box_in}
use base.Fraction.{full_share}
use Rattle.std.proofs.Common.{true≢false}
use Rattle.std.proofs.VecSteps.Shapes.{after}
use Rattle.std.proofs.impls.GlobalAllocator.TheImpl.Met.{passed}
use Rattle.std.specs.Prelude.{Option, None, Some, IsSome}
use Rattle.std_alloc.specs.contracts.boxed.Box.from_raw as g
use Rattle.std_alloc.proofs.boxed.Box.from_raw.Met.{met}
use Rattle.of_c.specs.Holding.{block_owned}
use Rattle.of_c.specs.contracts.raw.Raw as Raw
use Rattle.of_c.specs.contracts.raw.Raw.into_box as f
use Rattle.of_c.proofs.Boxes.{E, two, stays_idle, stays_idle, stays_idle, begins, lasts_all}
use Rattle.of_c.proofs.raw.Raw.into_box.Statement.{statement}
use Rattle.of_c.proofs.raw.Raw.into_box.Code as code

what : {X : Type 0} (o : Option X) → IsSome o → (x : X) × (o ≡ Some x)
what None is = absurd (true≢false (sym is))
what (Some x) is = (x, refl)

abbrev stayed : Stays f.ended.signature.params f.ended.kept
stayed = (stay_dropped _ yes, tt)

pub into_box_spec : {M : Type 1} → statement M
into_box_spec 𝓤 𝓛 𝓜 𝓡 wired =
    let c = f.clauses 𝓛 𝓜.mem 𝓡.returns in let 𝓣 = tables 𝓤 𝓛.H 𝓜 𝓡 𝓡.env in let fn = code.function in
    let A = E.al in
    let made = triple_of 𝓛 (g.signature E.row A.row A.g A.d A.drops) (g.spec E.row A.row A.g A.d A.drops 𝓛 𝓜.mem 𝓡.returns) in
    let allocates = passed 𝓡.env (code.calls-std_heap::GlobalAllocator::allocate 𝓡.env wired) (code.calls-std_heap::GlobalAllocator::deallocate 𝓡.env wired) (code.calls-std_heap::GlobalAllocator::grow 𝓡.env wired) (code.calls-std_heap::GlobalAllocator::shrink 𝓡.env wired) _ 𝓤 𝓛 𝓜 𝓡 in
    let idles = stays_idle 𝓤 𝓛 𝓜 𝓡 (code.calls-of_c::Destruct++none::drop 𝓡.env wired) in
    let makes = met 𝓤 𝓛 𝓜 𝓡 (code.calls-std_alloc::boxed::Box::from_raw 𝓡.env wired) E.row A.row E.laws A.laws A.g A.d A.drops allocates idles in
    proved_at 𝓛 f.ended stayed c 𝓜 𝓡 (Goes-dropped 𝓛 0 (plain (λ _. Raw.the_row)) yes (λ κs x w. refl), tt)
    f.Key.name fn (code.unfolded 𝓤 𝓛.H 𝓜 𝓡 wired) (λ y are.
    let r = y.0.3.0 in let vs = y.0.4.0 in let Post = (walk_of 𝓛 f.ended stayed c).post y in
    qed 𝓛 ((‵ ftrue ⊛ ‵ (fsep (Raw.the_row.own_val r vs) ftrue)) ∷ raw (fact 𝓤 (IsSome r.held)) ∷ []) ∵
    move ! (1 ∷ []) $ heard ! (IsSome r.held) (λ some_held. let x = what r.held some_held in
    let box : D E = record { ptr = r.at; alloc = r.alloc; value = x.0 } in
    split ! $ drop ! $ fsplit ! $ keep ! (0 ∷ []) $ fsplit ! $
    rewrite ! 1 (λ (o : Option E.row.Denot). ‵ (block_owned r.at r.alloc o)) x.1 refl $ fjoin ! $
    use1 𝓛 (‵ ((B E).own_val box vs)) (id⊢ 𝓤 _) $ box_out E ! box vs (λ b o hv e is fits. fjoin ! $
    regoal ! (λ (us : List Val). prop (WpFn 𝓤 𝓛.H 𝓣.C 𝓣.Λ fn (us ++ []) Post)) is refl $
    -- [the block with its value; the allocator]
    enter ! _ _ _ _ _ $ alloc_all ! (λ l. pass_all ! refl (box_typed E hv b o fits, tt) $
    sets ! (of_opd ! (get_in ! (fld ! refl (stop !)) (sub ! 0 refl (whole !)))) refl (tt, tt) $
    sets ! (of_opd ! (get_in ! (fld ! refl (stop !)) (sub ! 1 refl (whole !)))) refl fits $
    first ! $ blocks ! $ sets ! (of_opd ! (get ! refl)) refl (tt, tt) $
    begins ! tt (λ α β. move ! (1 ∷ []) $ lasts_all ! (β ∷ []) $ join ! $ lasts_all ! (α ∷ []) $ join ! $
    -- [what is required; the tokens; the allocator]
    nothing ! $ feq_i ! (List Val) (vptr b o ∷ []) (vptr b o ∷ []) refl $ fjoin ! $ move ! (3 ∷ 0 ∷ []) $ fjoin ! $ move ! (2 ∷ 0 ∷ []) $ join ! $ join ! $
    let z : made.Ghost = (((α ∷ [], (β ∷ [], tt)), (full_share, (full_share, tt)), tt, (r.alloc, (block_ptr b o, tt)), (hv ∷ [], (vptr b o ∷ [], tt))), x.0) in
    use1 𝓛 (raw (made.pre z)) (id⊢ 𝓤 _) $
    calls_at_last ! (framed 𝓤 𝓛.H 𝓜 (tables 𝓤 𝓛.H 𝓜 𝓡 𝓡.env)) made makes z (and_then ! (get ! refl) (and_then ! (get ! refl) (no_more !))) (λ u.
    use1 𝓛 (later (some (λ (d : D E). (two 𝓤 α β ⊛ ‵ ((B E).own_val d (u ∷ []))) ⊛ some (λ (_ : Unit {0} × (Unit {0} × Unit {0})).
    ‵ (fsep ftrue (fsep ftrue ftrue)) ⊛ (raw (fact 𝓤 (d.value ≡ x.0)) ⊛ raw (fact 𝓤 (d.alloc ≡ r.alloc))))))) (id⊢ 𝓤 _) $
    await ! tt $ pick ! (λ d. split ! $ split ! $ drop ! $ move ! (1 ∷ []) $ pick ! (λ _. split3 ! $ drop ! $ heard ! (d.value ≡ x.0) (λ same. drop ! $
    -- [the box]
    box_out E ! d (u ∷ []) (λ b' o' hw e' is' fits'. box_in E ! d b' o' d.value e' refl $
    let typed : T (has_ty (box_ty E) u) × WT u = subst (λ (s : Val). T (has_ty (box_ty E) s) × WT s) (sym (ap only is')) (box_typed E hw b' o' fits') in
    rewrite ! 0 (λ (us : List Val). ‵ ((B E).own_val d us)) (sym is') refl $
    lands_last ! refl typed $ exec ! 𝓣.C 𝓣.Λ (env fn.locals l) (after 3 fn.body) (at_ret (env fn.locals l) Post) $
    sets ! (of_opd ! (get ! refl)) refl typed $ returns ! (look_at ! 0 refl) $ free_all ! refl $
    suffices ! _ (ends_at 𝓛 f.ended stayed c y u d (tt, tt) (tt, tt)) $ says ! (x.1 ∙ ap Some (sym same)) $
    nothing ! $ nothing ! $ fjoin ! $ join ! $ nothing ! $ join ! $ done !))))))))))
