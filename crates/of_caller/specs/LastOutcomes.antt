-- What an idle machine holds: how its caller's last call ended, as long as the machine isn't lost
-- and replaced.
use Rattle.std.specs.Prelude.{ℕ, ◌<◌, List, ◌++◌, ◌≡◌}
use Rattle.of_core.specs.declared.place.Outcome.{Outcome}
use Rattle.of_core.specs.Table.{Setup}
use Rattle.of_core.specs.TableMoment.{Moment, TableStart}
use Rattle.of_core.specs.Invariant.{MeetsInvariant}
use Rattle.of_core.specs.Turn.{IsIdle}
use Rattle.of_core.specs.Events.{Event, machine_in, after_event, after_events, opening_moment, MayHappen, KeepsMachine, AllReplaceNone}
use Rattle.of_core.specs.Calls.{HasCalls, last_outcome, outcome_of_event, outcomes}
use Rattle.of_core.specs.Laws.{EachSchedule}

-- if caller i has no call open, its machine holds the last of these outcomes
abbrev pub HoldsLast : Moment → (i : ℕ) → List Outcome → Type 0
HoldsLast w i outs =
    IsIdle (machine_in w i) → (machine_in w i).answer ≡ last_outcome outs

-- If the machine of caller i holds the last outcome whenever it is idle, this stays so after each
-- event that doesn't replace the machine.
abbrev pub EventsLeadLast : Setup → (List ℕ → Type 0) → Type 0
EventsLeadLast S Lawful =
    (B : TableStart) (w : Moment) → MeetsInvariant S Lawful B w
    → (i before : ℕ) → i < S.callers
    → (ops : List (List ℕ)) (outs : List Outcome) → HasCalls S B before w i ops outs
    → HoldsLast w i outs → (e : Event) → MayHappen S w e → KeepsMachine e i
    → HoldsLast (after_event S w e) i (outs ++ outcome_of_event S w e i)

-- after each schedule that replaces no machine, an idle machine holds its caller's last outcome
abbrev pub MachinesHoldLast : Setup → (List ℕ → Type 0) → Type 0
MachinesHoldLast S Lawful = EachSchedule S Lawful (λ B n es. AllReplaceNone es →
    let w : Moment = opening_moment S B n in
    (i : ℕ) → i < S.callers → HoldsLast (after_events S w es) i (outcomes S w es i))
