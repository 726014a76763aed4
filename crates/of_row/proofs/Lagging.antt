-- A member whose machine lags.
use Rattle.std.proofs.Common.{◌≡◌, ℕ, [], ◌∷◌, Bool, List, ap, sym, ◌∙◌}
use Rattle.of_mem.specs.Meaning.{Meaning}
use Rattle.of_core.specs.declared.place.Place.{Place}
use Rattle.of_core.specs.Machine.{CallState, first_place}
use Rattle.of_core.specs.MachineValue.{Machine, machine_setup}
use Rattle.of_core.specs.Steps.{take_word}
use Rattle.of_core.specs.Lagging.{at_place, after_lagging}
use Rattle.of_core.specs.TableMoment.{TableStart}
use Rattle.of_core.proofs.Lagging.{true_take}
use Rattle.of_row.specs.declared.member.Member.{Member}
use Rattle.of_row.specs.declared.row.Row.{Row}
use Rattle.of_row.specs.Views.{KnownCaller, View, IsSole}
use Rattle.of_row.specs.Turned.{StandsForMachine, MakesStep}
use Rattle.of_row.specs.Rows.{RunsOnRow, IsMemberOf}
use Rattle.of_row.proofs.Members.{stepped_member, sole_of, made_stands}

-- the true machine runs on the row too
pub true_runs : {X : Type 0} (row : Row X) (m : Machine X) (p : Place) (k : ℕ) → RunsOnRow row m → RunsOnRow row (at_place m p k)
true_runs row m p k runs = λ i. at_place (runs i) p k

module _ {X : Type 0} (meaning : X → Meaning) (lawful : X → List ℕ → Type 0) (B : TableStart) (m : Machine X) (place : Place) (k : ℕ) (p : Member) (w : View) (found : ℕ) (h : IsMemberOf meaning p (at_place m place k)) (later : (b : Bool) → place ≡ first_place b → ⊥)
    (step : MakesStep (machine_setup meaning m) (lawful m.work) B (at_place m place k).call p.seat.me.0 found w) where
  abbrev d : Machine X
  d = at_place m place k

  abbrev n : Machine X
  n = after_lagging meaning m place k found

  -- what the true machine's step has led to
  pub led : n ≡ record d { call = take_word (machine_setup meaning d) d.call found }
  led = ap (λ (it : CallState). record d { call = it }) (true_take (machine_setup meaning m) m.call place k found)

  -- the step begins no call
  made_same : p.made ≡ n.call.made
  made_same =
      let stood = made_stands (machine_setup meaning d) h.0 d.call h.2 later in
      h.4 ∙ sym (ap (λ (z : Machine X). z.call.made) led ∙ step.made ∙ stood)

  -- so the member stands for the true machine after the step
  pub stands : (y : KnownCaller) × (w.kept ≡ y ∷ []) × StandsForMachine (machine_setup meaning n) y n.call × (p.number ≡ y.machine.caller) × (p.made ≡ y.machine.made)
  stands = stepped_member meaning lawful B d n p.seat.me.0 w found p.number p.made h.0 h.1 h.2 h.3 step led made_same

  pub sole : IsSole w.kept p.number p.made
  sole = let s = stands in sole_of w.kept p.number p.made s.0 s.1 s.3 s.4
