-- Null and an allocator own nothing.
use Rattle.of_c.proofs.Steps.{refl, List, [], ◌∷◌, ◌++◌, T, Val, vint, vstruct, vcons, vnil, has_ty, WT, emp, id⊢, ftrue, fsep, WpFn, tables, ‵, raw, ◌⊛◌, prop, ◌$◌, ◌∵◌, !, qed, done, move, keep, drop, use1, split, join, fsplit, fjoin, fpack, feq_i, regoal, suffices, agg, enter, lit, no_more, and_then, returns, alloc_all, pass_all, free_all, look_at, get, sets, yes, Valss, null_ptr, plain, nothing, within, shape, fields, to, walk_of, says, Stays, stay_dropped, Goes-dropped, ends_at, lit<, w64, proved_at, handle_tells, and_tt}
use denote.Param.{layout}
use Rattle.std.specs.Prelude.{None}
use Rattle.std.specs.contracts.alloc.Global as Heap
use Rattle.of_c.proofs.Boxes.{E}
use Rattle.of_c.specs.contracts.raw.Raw as Raw
use Rattle.of_c.specs.contracts.raw.Raw.none as f
use Rattle.of_c.proofs.raw.Raw.none.Statement.{statement}
use Rattle.of_c.proofs.raw.Raw.none.Code as code

abbrev stayed : Stays f.ended.signature.params f.ended.kept
stayed = (stay_dropped _ yes, tt)

pub none_spec : {M : Type 1} → statement M
none_spec 𝓤 𝓛 𝓜 𝓡 wired =
    let c = f.clauses 𝓛 𝓜.mem 𝓡.returns in let 𝓣 = tables 𝓤 𝓛.H 𝓜 𝓡 𝓡.env in
    proved_at 𝓛 f.ended stayed c 𝓜 𝓡 (Goes-dropped 𝓛 0 (plain (λ _. Heap.the_row)) yes (λ κs x w. refl), tt)
    f.Key.name code.function (code.unfolded 𝓤 𝓛.H 𝓜 𝓡 wired) (λ y are.
    let a = y.0.3.0 in let Post = (walk_of 𝓛 f.ended stayed c).post y in
    let made : Raw.the_row.Denot = record { at = null_ptr; alloc = a; held = None } in
    qed 𝓛 ((‵ ftrue ⊛ ‵ (fsep (Heap.the_row.own_val a y.0.4.0) ftrue)) ∷ raw (emp 𝓤) ∷ []) ∵
    split ! $ drop ! $ fsplit ! $ handle_tells E.al ! a y.0.4.0 (λ hv is fits. keep ! (0 ∷ []) $
    let w : Val = vstruct (vcons (vint w64 0) (vcons hv vnil)) in
    let typed : T (has_ty (layout Raw.the_row) w) × WT w = (and_tt (has_ty (layout Heap.the_row) hv) fits.0, (record { fits = lit< tt }, (fits.1, tt))) in
    regoal ! (λ (us : List Val). prop (WpFn 𝓤 𝓛.H 𝓣.C 𝓣.Λ code.function (us ++ []) Post)) is refl $
    -- [what the struct owns]
    nothing ! $ nothing ! $ move ! (2 ∷ 0 ∷ []) $ fjoin ! $ feq_i ! (List Val) (vint w64 0 ∷ []) _ refl $ fjoin ! $ feq_i ! (List Val) (w ∷ []) _ refl $ fjoin ! $
    fpack ! (Valss (fields Raw.the_type)) (within (shape Raw.the_type) (to Raw.the_type made) (w ∷ [])) (vint w64 0 ∷ [], (hv ∷ [], tt)) $ fjoin ! $
    use1 𝓛 (‵ (Raw.the_row.own_val made (w ∷ []))) (id⊢ 𝓤 _) $
    enter ! _ _ _ _ _ $ alloc_all ! (λ l. pass_all ! refl (fits, tt) $
    sets ! (agg ! (and_then ! (lit ! tt) (and_then ! (get ! refl) (no_more !)))) refl typed $
    returns ! (look_at ! 0 refl) $ free_all ! refl $
    suffices ! _ (ends_at 𝓛 f.ended stayed c y w made (tt, tt) (tt, tt)) $ says ! refl $
    nothing ! $ nothing ! $ fjoin ! $ join ! $ nothing ! $ join ! $ done !)))
