-- The call takes the box apart. Its pointer and its allocator own together what they owned in it.
use Rattle.of_c.proofs.Steps.{◌≡◌, refl, sym, ap, List, [], ◌∷◌, ◌++◌, Val, emp, id⊢, ftrue, fsep, WpFn, fact, tables, ‵, raw, ◌⊛◌, some, later, prop, ◌$◌, ◌∵◌, !, qed, done, keep, move, drop, use1, split, split3, join, fsplit, fjoin, pick, await, rewrite, regoal, suffices, whole, sub, agg, enter, of_opd, stop, fld, no_more, and_then, returns, alloc_all, pass_all, free_all, look_at, get, get_in, sets, lands_as, yes, Ptr, RawPtr, plain, nothing, heard, only, calls_at, triple_of, framed, walk_of, says, Stays, stay_dropped, Goes-dropped, ends_at, proved_at, token, box_owns, D, R, P, B, word, box_typed, box_out, box_in}
use base.Fraction.{full_share}
use denote.Struct.Tuple.{Tuple}
use Rattle.std.specs.Prelude.{Some}
use Rattle.std.specs.contracts.alloc.Global as Heap
use Rattle.std.specs.contracts.boxed.Box as Box
use Rattle.std.specs.contracts.impls.GlobalAllocator.TheImpl.{ghosts}
use Rattle.std.proofs.impls.GlobalAllocator.TheImpl.Met.{passed}
use Rattle.std_alloc.specs.contracts.boxed.Box.into_raw_with_allocator as g
use Rattle.std_alloc.proofs.boxed.Box.into_raw_with_allocator.Met.{met}
use Rattle.of_c.specs.contracts.held.Held as Held
use Rattle.of_c.specs.contracts.raw.Raw as Raw
use Rattle.of_c.specs.contracts.raw.Raw.of as f
use Rattle.of_c.proofs.Boxes.{E, lets_go, let_go, stays_idle, two, begins, lasts_all}
use Rattle.of_c.proofs.raw.Raw.of.Statement.{statement}
use Rattle.of_c.proofs.raw.Raw.of.Code as code

abbrev stayed : Stays f.ended.signature.params f.ended.kept
stayed = (stay_dropped _ yes, tt)

pub of_spec : {M : Type 1} → statement M
of_spec 𝓤 𝓛 𝓜 𝓡 wired =
    let c = f.clauses 𝓛 𝓜.mem 𝓡.returns in let 𝓣 = tables 𝓤 𝓛.H 𝓜 𝓡 𝓡.env in let fn = code.function in
    let A = E.al in
    let parts = triple_of 𝓛 (g.signature E.row A.row A.g A.d A.drops lets_go) (g.spec E.row A.row A.g A.d A.drops lets_go 𝓛 𝓜.mem 𝓡.returns) in
    let allocates = passed 𝓡.env (code.calls-std_heap::GlobalAllocator::allocate 𝓡.env wired) (code.calls-std_heap::GlobalAllocator::deallocate 𝓡.env wired) (code.calls-std_heap::GlobalAllocator::grow 𝓡.env wired) (code.calls-std_heap::GlobalAllocator::shrink 𝓡.env wired) _ 𝓤 𝓛 𝓜 𝓡 in
    let idles = stays_idle 𝓤 𝓛 𝓜 𝓡 (code.calls-of_c::Destruct++none::drop 𝓡.env wired) in
    let goes = let_go 𝓤 𝓛 𝓜 𝓡 (code.calls-of_c::of_c++held++Held+Destruct::drop 𝓡.env wired) in
    let opens = met 𝓤 𝓛 𝓜 𝓡 (code.calls-std_alloc::boxed::Box::into_raw_with_allocator 𝓡.env wired) E.row A.row E.laws A.laws A.g A.d A.drops lets_go allocates idles goes in
    proved_at 𝓛 f.ended stayed c 𝓜 𝓡 (Goes-dropped 𝓛 0 (plain (λ _. Box.the_row Held.the_row Heap.the_row ghosts)) yes (λ κs x w. refl), tt)
    f.Key.name fn (code.unfolded 𝓤 𝓛.H 𝓜 𝓡 wired) (λ y are.
    let v = y.0.3.0 in let vs = y.0.4.0 in let Post = (walk_of 𝓛 f.ended stayed c).post y in
    qed 𝓛 ((‵ ftrue ⊛ ‵ (fsep ((B E).own_val v vs) ftrue)) ∷ raw (emp 𝓤) ∷ []) ∵
    split ! $ drop ! $ fsplit ! $ keep ! (0 ∷ []) $ box_out E ! v vs (λ b o hv e is fits. box_in E ! v b o v.value e refl $
    regoal ! (λ (us : List Val). prop (WpFn 𝓤 𝓛.H 𝓣.C 𝓣.Λ fn (us ++ []) Post)) is refl $
    enter ! _ _ _ _ _ $ alloc_all ! (λ l. pass_all ! refl (box_typed E hv b o fits, tt) $
    sets ! (of_opd ! (get ! refl)) refl (box_typed E hv b o fits) $
    begins ! tt (λ α β. nothing ! $ lasts_all ! (β ∷ []) $ join ! $ lasts_all ! (α ∷ []) $ join ! $
    -- [what is required; the tokens; the box]
    nothing ! $ move ! (3 ∷ 0 ∷ []) $ fjoin ! $ move ! (2 ∷ 0 ∷ []) $ join ! $ join ! $
    let z : parts.Ghost = (((α ∷ [], (β ∷ [], tt)), (full_share, (full_share, tt)), tt, (v, tt), (word E hv b o ∷ [], tt)), tt) in
    use1 𝓛 (raw (parts.pre z)) (id⊢ 𝓤 _) $
    calls_at ! (framed 𝓤 𝓛.H 𝓜 (tables 𝓤 𝓛.H 𝓜 𝓡 𝓡.env)) parts opens z (and_then ! (get ! refl) (no_more !)) (λ u.
    use1 𝓛 (later (some (λ (r : Ptr × A.row.Denot). (two 𝓤 α β ⊛ ‵ ((Tuple (RawPtr ∷ P E ∷ [])).own_val r (u ∷ []))) ⊛ some (λ (_ : (Unit {0} × (Unit {0} × Unit {0})) × Unit {0}).
    ‵ (fsep (fsep ftrue (fsep ftrue ftrue)) ftrue) ⊛ (raw (fact 𝓤 (r.1 ≡ v.alloc)) ⊛ ‵ (box_owns (token A v.alloc) (R E) r.0 v.value)))))) (id⊢ 𝓤 _) $
    await ! tt $ pick ! (λ r. split ! $ split ! $ drop ! $ move ! (1 ∷ []) $ pick ! (λ _. split3 ! $ drop ! $ heard ! (r.1 ≡ v.alloc) (λ same.
    rewrite ! 0 (λ (a : A.row.Denot). ‵ (box_owns (token A a) (R E) r.0 v.value)) (sym same) refl $ move ! (1 ∷ 0 ∷ []) $ fjoin ! $
    let box : D E = record { ptr = r.0; alloc = r.1; value = v.value } in
    let made : Raw.the_row.Denot = record { at = r.0; alloc = r.1; held = Some v.value } in
    use1 𝓛 (‵ ((B E).own_val box (u ∷ []))) (id⊢ 𝓤 _) $ box_out E ! box (u ∷ []) (λ b' o' hw e' is' fits'. box_in E ! box b' o' v.value e' refl $
    use1 𝓛 (‵ (Raw.the_row.own_val made (word E hw b' o' ∷ []))) (id⊢ 𝓤 _) $
    let typed = box_typed E hw b' o' fits' in
    lands_as ! (ap only is') refl typed $
    sets ! (of_opd ! (get_in ! (fld ! refl (stop !)) (sub ! 0 refl (whole !)))) refl (tt, tt) $
    sets ! (of_opd ! (get_in ! (fld ! refl (stop !)) (sub ! 1 refl (whole !)))) refl fits' $
    sets ! (of_opd ! (get ! refl)) refl (tt, tt) $
    sets ! (agg ! (and_then ! (get ! refl) (and_then ! (get ! refl) (no_more !)))) refl typed $
    returns ! (look_at ! 0 refl) $ free_all ! refl $
    suffices ! _ (ends_at 𝓛 f.ended stayed c y (word E hw b' o') made (tt, tt) (tt, tt)) $ says ! refl $
    nothing ! $ nothing ! $ fjoin ! $ join ! $ nothing ! $ join ! $ done !)))))))))
