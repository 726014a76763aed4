-- A body may be proved with what is merely so, since that a body meets its contract has one proof.
use Rattle.of_c.proofs.Steps.{refl, Val, List, [], ◌∷◌, ftrue, fsep, flft, fact, ◌⊑◌, tables, Item, ‵, raw, ◌⊛◌, ◌$◌, ◌∵◌, !, qed, by, done, move, drop, split, split3, join, feq_i, suffices, enter, of_opd, returns, alloc_all, pass_all, free_all, look_at, sets, yes, plain, heard, walk_of, says, Stays, ends_at}
use mathlib.Core.Logic.{∥∥₁_elim}
use seplogic.Bi.Basic.{Entails-prop}
use mir.Syntax.{Args, a_type, dcons, dnil, named}
use mir.MapTy.{inst_fn}
use mir.Val.{vunit}
use types.Run.{unit_lit}
use denote.Param.{bounded, param}
use denote.Ref.{ShrRef, shr_vals, shr_Tells}
use denote.Triple.Walked.{stay_none_ref, Goes-none_ref}
use Rattle.std.proofs.raw_atomic.Walks.{proved}
use Rattle.of_c.specs.contracts.truth.surely as f
use Rattle.of_c.proofs.truth.surely.Statement.{statement}
use Rattle.of_c.proofs.truth.surely.Code as code

pub surely_spec : {M : Type 1} → statement M
surely_spec 𝓤 𝓛 𝓜 𝓡 wired X Y LX LY gs d met =
    let K = f.ended X Y gs d in
    let stayed : Stays K.signature.params K.kept = (stay_none_ref (0 ∷ []) tt (plain (λ _. param 0 X)) yes, tt) in
    let c = f.clauses X Y gs d 𝓛 𝓜.mem 𝓡.returns in let 𝓣 = tables 𝓤 𝓛.H 𝓜 𝓡 𝓡.env in
    let types : Args = bounded (a_type ∷ a_type ∷ []) (X, (Y, tt)) (dcons d dnil) in
    let fn = inst_fn types code.function in
    proved 𝓛 K stayed c 𝓜 𝓡 (Goes-none_ref 𝓛 3 (0 ∷ []) tt (plain (λ _. param 0 X)) yes, tt)
    (f.Key.name types) fn (code.unfolded 𝓤 𝓛.H 𝓜 𝓡 wired (X, (Y, tt)) d)
    (λ κs. (shr_vals, tt)) (λ κs. (shr_Tells (named 0) κs.0 (param 0 X), tt)) (λ κs qs bounds a _ are.
    let x = a.0 in let y : (walk_of 𝓛 K stayed c).Ghost = ((κs, qs, bounds, a, (shr_vals x, tt)), tt) in
    let alive : Item 𝓤 = ‵ (flft κs.0 qs.0) ⊛ ‵ (flft κs.1.0 qs.1.0) ⊛ ‵ (flft κs.1.1.0 qs.1.1.0) ⊛ ‵ ftrue in
    let lent : Item 𝓤 = ‵ (fsep ((ShrRef (named 0) κs.0 (param 0 X)).own_val x (shr_vals x)) ftrue) in
    let asked : Item 𝓤 = raw (fact 𝓤 (κs.1.0 ⊑ X.lives)) ⊛ raw (fact 𝓤 (κs.1.1.0 ⊑ Y.lives)) ⊛ raw (fact 𝓤 ∥ gs.claim x.now ∥₁) in
    qed 𝓛 ((alive ⊛ lent) ∷ asked ∷ []) ∵ move ! (1 ∷ []) $ split3 ! $ drop ! $ drop ! $ heard ! ∥ gs.claim x.now ∥₁ (λ mere.
    by ! (∥∥₁_elim mere (Entails-prop 𝓤.op _ _) (λ so.
    qed 𝓛 ((alive ⊛ lent) ∷ []) ∵ split ! $
    enter ! _ _ _ _ _ $ alloc_all ! (λ l. pass_all ! refl ((tt, tt), tt) $
    sets ! (of_opd ! (unit_lit !)) refl (tt, tt) $ returns ! (look_at ! 0 refl) $ free_all ! refl $
    suffices ! _ (ends_at 𝓛 K stayed c y vunit tt (tt, tt) (tt, tt)) $ says ! so $
    feq_i ! (List Val) (vunit ∷ []) _ refl $ move ! (2 ∷ 0 ∷ []) $ join ! $ move ! (1 ∷ 0 ∷ []) $ join ! $ done !)))))
