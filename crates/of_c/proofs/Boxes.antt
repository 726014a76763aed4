-- The box of what is held, and what its library asks of a caller: two lifetimes with their tokens,
-- an allocator, and how what is held is let go.
use Prim.Native.Nat.{ℕ}
use mathlib.Core.Path.{refl}
use mathlib.Core.List.{List, [], ◌∷◌}
use seplogic.Ra.Ura.{Ura}
use mir.Syntax.{Dict, impl, method, no_args, tnil, tcons, dnil}
use mir.Raw.{raw as bare}
use base.Fraction.{full_share}
use base.Fml.{Lft, ftrue, fsep, flft}
use base.Logic.{sep, emp}
use prog.Model.{Model}
use prog.Wired.{Wired}
use types.Logic.{Logic, sem}
use types.Kit.{Item, Goal, Soaks, Seq, Step, step, ‵, raw, ◌⊛◌, ◌$◌, ◌∵◌, !, qed, move, drop, join, fjoin, show, done, use0}
use types.Tokens.{lft_new}
use contract.Monad.{fact, fact_i}
use contract.BorrowLft.{◌⊑◌, ⊑_static}
use contract.Running.{Running}
use denote.Exit.{no}
use denote.RattleType.{RattleType}
use denote.Steps.{nothing}
use denote.Param.{layout, arg}
use denote.Param.Laws.{arg_laws}
use denote.Param.NoDrop.{glues}
use denote.Param.Glue.{Met, spent}
use denote.Triple.Spec.{Spec, triple_of}
use denote.Triple.Table.{run_framed, widened}
use denote.Triple.Carry.{spared, beside}
use Rattle.std_alloc.proofs.BoxSteps.Form.{Bx}
use Rattle.std.specs.contracts.alloc.Global as heap
use Rattle.std.specs.contracts.impls.GlobalAllocator.TheImpl.{ghosts, dict}
use Rattle.std.proofs.alloc.Global.TheLaws as heap_laws
use Rattle.of_c.specs.contracts.held.Held as held
use Rattle.of_c.proofs.held.Held.TheLaws as held_laws
use Rattle.of_c.proofs.Destruct++none.drop.Code as none
use Rattle.of_c.specs.contracts.of_c++held++Held+Destruct.drop as drop
use Rattle.of_c.proofs.of_c++held++Held+Destruct.drop.Met.{met}
use Rattle.of_c.proofs.of_c++held++Held+Destruct.drop.Symbol as symbol

-- a type as the compiled code passes it
abbrev pub passes : RattleType → RattleType
passes R = arg (bare (layout R)) no R

-- an allocator is let go by nothing
abbrev pub idle : Dict
idle = impl ("of_c::Destruct++none::drop" ∷ []) (tcons (layout (passes heap.the_row)) tnil) dnil

-- the box
abbrev pub E : Bx
E = record {
  row = passes held.the_row;
  laws = arg_laws (bare (layout held.the_row)) no held.the_row held_laws.the_row_laws refl;
  al = record { row = passes heap.the_row; laws = arg_laws (bare (layout heap.the_row)) no heap.the_row heap_laws.the_row_laws refl; g = ghosts; d = dict; drops = idle };
}

-- how what is held is let go
abbrev pub lets_go : Dict
lets_go = impl ("of_c::of_c++held++Held+Destruct::drop" ∷ []) tnil dnil

pub let_go : {M : Type 1} (𝓤 : Ura M) (𝓛 : Logic 𝓤) (𝓜 : Model 𝓤 𝓛.H) (𝓡 : Running 𝓤 𝓛.H 𝓜) → Wired 𝓡.env symbol.code → Met 𝓛 𝓜 𝓡 𝓡.env E.row lets_go
let_go 𝓤 𝓛 𝓜 𝓡 wired =
    let k = method lets_go 0 no_args in let run = 𝓡.run (𝓡.env k) in let S = drop.signature in let spec = drop.spec 𝓛 𝓜.mem 𝓡.returns in
    let silent : Spec 𝓤 S = λ κs a. record { ghost = Unit {0}; requires = λ _. emp 𝓤; ensures = (spent 𝓛 E.row ([], tt) a).ensures } in
    spared 𝓛 S run (run_framed 𝓤 𝓛.H 𝓜 𝓡 (𝓡.env k)) 1 (E.row.lives, tt) silent
    (beside 𝓛 S run (run_framed 𝓤 𝓛.H 𝓜 𝓡 (𝓡.env k)) spec silent (λ κs a x. x) (λ κs a x. emp 𝓤)
    (λ κs a x. qed 𝓛 (raw (emp 𝓤) ∷ []) ∵ nothing ! $ join ! $ done !)
    (λ κs a x r. qed 𝓛 (raw ((spec κs a).ensures x r) ∷ raw (emp 𝓤) ∷ []) ∵ drop ! $
    show ! (λ (ws : Unit {0} × Unit {0}). sep 𝓤 (sem 𝓛 (fsep ftrue ftrue)) (emp 𝓤)) (tt, tt) $ nothing ! $ nothing ! $ fjoin ! $ join ! $ done !)
    (widened 𝓤 𝓛.H (triple_of 𝓛 S spec) 𝓜 𝓡 𝓡.env (𝓡.env symbol.name) (𝓡.env k) (symbol.as_method 𝓡.env wired k refl) (met 𝓤 𝓛 𝓜 𝓡 wired)))

pub stays_idle : {M : Type 1} (𝓤 : Ura M) (𝓛 : Logic 𝓤) (𝓜 : Model 𝓤 𝓛.H) (𝓡 : Running 𝓤 𝓛.H 𝓜) → Wired 𝓡.env none.code → Met 𝓛 𝓜 𝓡 𝓡.env E.al.row idle
unfolding none.code
stays_idle 𝓤 𝓛 𝓜 𝓡 wired = glues "of_c::Destruct++none::drop" 𝓡.env wired E.al.row E.al.laws _ 𝓤 𝓛 𝓜 𝓡

-- the tokens of two lifetimes
abbrev pub two : {M : Type 1} (𝓤 : Ura M) → (α β : ℕ) → Item 𝓤
two 𝓤 α β = ‵ (flft (α ∷ []) full_share) ⊛ ‵ (flft (β ∷ []) full_share) ⊛ ‵ ftrue

module _ {M : Type 1} {𝓤 : Ura M} {𝓛 : Logic 𝓤} {K : Type 0} {Γ : List (Item 𝓤)} {G : Goal 𝓤 𝓛.H} where
  pub begins : K → Soaks G → ((α β : ℕ) → Seq K 𝓛 (two 𝓤 α β ∷ Γ) G) → Seq K 𝓛 Γ G
  begins t a k = lft_new t a (λ β. nothing t $ move t (1 ∷ 0 ∷ []) $ join t $ lft_new t a (λ α. join t $ k α β))

  -- a lifetime is within what lives for ever
  pub lasts_all : K → (κ : Lft) → Step K 𝓛 (raw (fact 𝓤 (κ ⊑ [])) ∷ Γ) G Γ G
  lasts_all t κ = step (λ s. use0 𝓛 (raw (fact 𝓤 (κ ⊑ []))) (fact_i 𝓤 (κ ⊑ []) (emp 𝓤) (⊑_static κ)) $ s)
