-- What has become of calls whose machine was lost: whether there is a new machine or not.
use Rattle.std.proofs.Common.{◌≡◌, ◌⊎◌, ◌↔◌, ℕ, inl, inr, Bool, true, false, List, refl, sym, ap, subst, ⊎_elim}
use Rattle.std.specs.Prelude.{IsTrue}
use mathlib.Core.List.{IsPrefix}
use Rattle.of_core.specs.declared.place.Place.{Place}
use Rattle.of_core.specs.declared.place.Place.TheVariants.{Idle}
use Rattle.of_core.specs.Table.{Setup}
use Rattle.of_core.specs.Machine.{IsOpen, is_idle}
use Rattle.of_core.specs.TableMoment.{TableStart}
use Rattle.of_core.specs.declared.remains.Remains.{Remains}
use Rattle.of_core.specs.Remains.{remains_of, revived_if, announces_open_call}
use Rattle.of_row.specs.declared.member.NotRevived.{NotRevived}
use Rattle.of_row.specs.declared.member.NotRevived.TheVariants.{NotYet, AtLimit, OutOfMemory}
use Rattle.of_row.specs.Views.{KnownCaller, View, last_caller}
use Rattle.of_row.specs.Trail.{moment}
use Rattle.of_row.specs.Revivals.{known_after_revival}
use Rattle.of_row.specs.Replacing.{WasSoBetween, GetsMachine, LearntOrRevived, RefusesMachine}
use Rattle.of_cells.specs.Lost.{CallsGoOn, AnnouncesOpenCall}

open_or_idle : (p : Place) → IsOpen p ⊎ (p ≡ Idle)
open_or_idle Idle = inr refl
open_or_idle p = inl refl

abbrev GoesOnAs : KnownCaller → KnownCaller → Type 0
GoesOnAs x y = CallsGoOn (IsOpen x.machine.place) x.machine.op x.ended (IsOpen y.machine.place) y.machine.op y.ended

module _ (S : Setup) (L : List ℕ → Type 0) (B : TableStart) (v : View) (x : KnownCaller) (u : View) (y : KnownCaller) where
  -- there is a new machine
  pub gets_calls : GetsMachine S L B v x u y → GoesOnAs x y
  gets_calls g = record {
    none = λ shut. let i = g.takes_over.idle (rest shut) in (λ o. let z : true ≡ false = subst (λ (p : Place). is_idle p ≡ false) i.0 o in cc, i.1);
    some = λ o. ⊎_elim (λ t. inl t) (λ t. inr (λ o. let z : true ≡ false = subst (λ (p : Place). is_idle p ≡ false) t.0 o in cc, t.1)) (g.takes_over.open_call o);
  }
    where
      rest : (IsOpen x.machine.place → ⊥) → x.machine.place ≡ Idle
      rest shut = go (open_or_idle x.machine.place)
        where
          go : IsOpen x.machine.place ⊎ (x.machine.place ≡ Idle) → x.machine.place ≡ Idle
          go (inl o) = absurd (shut o)
          go (inr q) = q

  -- it has an open call exactly if the words said so at the moment at which it was made
  pub gets_if_announced : GetsMachine S L B v x u y → WasSoBetween S B v u (λ ws. IsOpen y.machine.place ↔ AnnouncesOpenCall S x.machine.caller ws)
  gets_if_announced g = let f = g.from in (
    f.0,
    f.1,
    f.2,
    subst (λ (k : KnownCaller). IsOpen k.machine.place ↔ AnnouncesOpenCall S x.machine.caller (moment S B f.0).words) (sym f.3)
        (said (remains_of S (moment S B f.0).words x.machine.caller) (announces_open_call (remains_of S (moment S B f.0).words x.machine.caller))),
  )
    where
      said : (r : Remains) (b : Bool) → IsOpen (revived_if S r x.machine.caller x.machine.made b).place ↔ IsTrue b
      said r true = (λ o. refl, λ t. refl)
      said r false = (λ o. cc, λ t. cc)

-- there is none, and the calls are as they were
same_calls : (x : KnownCaller) → GoesOnAs x x
same_calls x = record { none = λ shut. (shut, refl); some = λ o. inl (o, refl, refl) }

module _ (S : Setup) (L : List ℕ → Type 0) (B : TableStart) (v u : View) where
  either_calls : LearntOrRevived S L B v (last_caller v.kept) u (last_caller u.kept) → GoesOnAs (last_caller v.kept) (last_caller u.kept) × IsPrefix v.past u.past
  either_calls (inl l) = (subst (λ (ks : List KnownCaller). GoesOnAs (last_caller v.kept) (last_caller ks)) (ap (λ (z : View). z.kept) (sym l.is)) (same_calls (last_caller v.kept)), l.past)
  either_calls (inr g) = (gets_calls S L B v (last_caller v.kept) u (last_caller u.kept) g, g.past)

  pub refused_calls : (e : NotRevived) → RefusesMachine S L B v (last_caller v.kept) u (last_caller u.kept) e → GoesOnAs (last_caller v.kept) (last_caller u.kept) × IsPrefix v.past u.past
  refused_calls (NotYet reason) r = either_calls (inl r.0)
  refused_calls AtLimit r = either_calls r.0
  refused_calls (OutOfMemory error) r = either_calls r
