-- A spent call is the last of its caller's where a spent caller begins none.
use Rattle.std.proofs.Common.{◌≡◌, ℕ, zero, suc, ◌+◌, ◌<◌, ◌≤◌, inl, inr, Bool, true, false, List, [], ◌∷◌, ◌++◌, length, get_or, refl, sym, ap, subst, ◌∙◌, arith, Some, None, Option, append_assoc}
use Rattle.std.proofs.lemmas.Bool.{cases_eq, cases_lt, ne_eqb}
use Rattle.std.proofs.lemmas.List.{append-nil, get_or_append_left}
use Rattle.of_plan.specs.Plan.{Plan}
use Rattle.of_core.specs.declared.place.Place.TheVariants.{Idle}
use Rattle.of_core.specs.declared.place.Outcome.{Outcome}
use Rattle.of_core.specs.declared.place.Outcome.TheVariants.{Spent}
use Rattle.of_core.specs.Table.{Setup, committed_seq}
use Rattle.of_core.specs.Machine.{is_idle}
use Rattle.of_core.specs.TableMoment.{Moment}
use Rattle.of_core.specs.Invariant.{MeetsInvariant}
use Rattle.of_core.specs.Events.{Event, Begins, Turns, Loads, Evicts, Raises, Revives, machine_in, after_event, MayHappen, IsSchedule, KeepsMachine, zero_start}
use Rattle.of_core.specs.Calls.{operation_begun, operations_begun, outcome_of_event, outcome_of_loss, outcomes, if_so, no_outcome, last_outcome_or, HasCalls}
use Rattle.of_caller.specs.Tables.{plan_setup, IsLawfulFor, opening_for}
use Rattle.of_caller.specs.Ends.{is_spent}
use Rattle.of_caller.specs.PlanLaws.{HasTableLaws}
use Rattle.of_caller.specs.LastOutcomes.{HoldsLast}
use Rattle.of_play.proofs.PlaysMoments.{IsPlayable, idle_or_open, good_opening, calls_here, last_here}

-- a spent call is the last that was begun
abbrev pub EndsSpent : List (List ℕ) → List Outcome → Type 0
EndsSpent ops outs = (x s : ℕ) → x < length outs → get_or outs x no_outcome ≡ Spent s → x + 1 ≡ length ops

-- caller i begins no call by this event where its last one was spent, nor is its machine replaced
abbrev pub BeginsUnspent : Moment → Event → ℕ → Type 0
BeginsUnspent w (Begins j op) i = i ≡ j → is_spent (machine_in w i).answer ≡ false
BeginsUnspent w (Turns j) i = Unit {0}
BeginsUnspent w (Loads c) i = Unit {0}
BeginsUnspent w (Evicts k) i = Unit {0}
BeginsUnspent w (Raises c) i = Unit {0}
BeginsUnspent w (Revives j made) i = j ≡ i → ⊥

keeps_machine : (w : Moment) (e : Event) (i : ℕ) → BeginsUnspent w e i → KeepsMachine e i
keeps_machine w (Begins j op) i kept = tt
keeps_machine w (Turns j) i kept = tt
keeps_machine w (Loads c) i kept = tt
keeps_machine w (Evicts k) i kept = tt
keeps_machine w (Raises c) i kept = tt
keeps_machine w (Revives j made) i kept = kept

-- and by none of these
abbrev pub NoneAfterSpent : Setup → Moment → List Event → ℕ → Type 0
NoneAfterSpent S w [] i = Unit {0}
NoneAfterSpent S w (e ∷ es) i = BeginsUnspent w e i × NoneAfterSpent S (after_event S w e) es i

-- the last outcome is the one at the last place
pub last_at : (outs : List Outcome) (before : Option Outcome) (x : ℕ) → x + 1 ≡ length outs → last_outcome_or before outs ≡ Some (get_or outs x no_outcome)
last_at [] before x one = absurd (omega arith)
last_at (o ∷ []) before zero one = refl
last_at (o ∷ []) before (suc x) one = absurd (omega arith)
last_at (o ∷ u ∷ outs) before zero one = absurd (omega arith)
last_at (o ∷ u ∷ outs) before (suc x) one = last_at (u ∷ outs) (Some o) x (omega arith)

-- a caller has at most one call more begun than ended
ended_begun : (S : Setup) (w : Moment) (i : ℕ) (ops : List (List ℕ)) (outs : List Outcome) → HasCalls S (zero_start S) 0 w i ops outs → (length outs ≤ length ops) × (length ops ≤ length outs + 1)
ended_begun S w i ops outs c = elim (idle_or_open (machine_in w i).place) [
  | inl idle ↦ (omega (arith, c.idle idle), omega (arith, c.idle idle))
  | inr opened ↦ (omega (arith, (c.open_call opened).0), omega (arith, (c.open_call opened).0))
]

module _ (S : Setup) (Lawful : List ℕ → Type 0) (laws : HasTableLaws S Lawful) (i : ℕ) (member : i < S.callers) where
  module _ (w : Moment) (ops : List (List ℕ)) (outs : List Outcome) (c : HasCalls S (zero_start S) 0 w i ops outs) (holds : HoldsLast w i outs) (spent : EndsSpent ops outs) where
    same_calls : EndsSpent (ops ++ []) (outs ++ [])
    same_calls = subst (λ (xs : List (List ℕ)). EndsSpent xs (outs ++ [])) (sym (append-nil ops)) (subst (EndsSpent ops) (sym (append-nil outs)) spent)

    -- an unspent caller has no spent call at all, so it may begin one more
    one_more : (more : List (List ℕ)) → (machine_in w i).place ≡ Idle → is_spent (machine_in w i).answer ≡ false → EndsSpent (ops ++ more) (outs ++ [])
    one_more more idle unspent =
        subst (EndsSpent (ops ++ more)) (sym (append-nil outs)) (λ x s lt is.
        let last : (machine_in w i).answer ≡ Some (Spent s) = holds idle ∙ last_at outs None x (omega (arith, spent x s lt is, c.idle idle)) ∙ ap (λ (o : Outcome). Some o) is in
        let z : true ≡ false = sym (ap is_spent last) ∙ unspent in cc)

    -- what ends is the last call that was begun
    one_ended : (new : List Outcome) → length (outs ++ new) ≤ length (ops ++ []) → EndsSpent (ops ++ []) (outs ++ new)
    one_ended new few x s lt is = elim (cases_lt x (length outs)) [
      | inl old ↦ omega (arith, spent x s old (sym (get_or_append_left outs new no_outcome x old) ∙ is), ap length (append-nil ops))
      | inr late ↦ omega (arith, lt, few, late, ap length (append-nil ops), (ended_begun S w i ops outs c).1)
    ]

    event_ends : MeetsInvariant S Lawful (zero_start S) w → (e : Event) → MayHappen S w e → BeginsUnspent w e i → EndsSpent (ops ++ operation_begun e i) (outs ++ outcome_of_event S w e i)
    event_ends g (Loads x) may unspent = same_calls
    event_ends g (Evicts k) may unspent = same_calls
    event_ends g (Raises x) may unspent = same_calls
    event_ends g (Revives j made) may unspent =
        subst (λ (b : Bool). EndsSpent (ops ++ []) (outs ++ if_so b (outcome_of_loss (committed_seq w.words) (is_idle (machine_in w j).place) (is_idle (machine_in (after_event S w (Revives j made)) j).place)))) (sym (ne_eqb i j (λ e. unspent (sym e)))) same_calls
    event_ends g (Begins j op) may unspent = elim (cases_eq j i) [
      | inl same ↦ one_more (operation_begun (Begins j op) i) (ap (λ (k : ℕ). (machine_in w k).place) (sym same) ∙ may.1) (unspent (sym same))
      | inr other ↦ subst (λ (b : Bool). EndsSpent (ops ++ if_so b (op ∷ [])) (outs ++ [])) (sym (ne_eqb i j (λ e. other (sym e)))) same_calls
    ]
    event_ends g (Turns j) may unspent = one_ended (outcome_of_event S w (Turns j) i) (ended_begun S (after_event S w (Turns j)) i (ops ++ []) (outs ++ outcome_of_event S w (Turns j) i) (laws.more_calls (zero_start S) w g i 0 member ops outs c (Turns j) may)).0

  run_ends : (es : List Event) (w : Moment) → MeetsInvariant S Lawful (zero_start S) w → IsSchedule S w es → (ops : List (List ℕ)) (outs : List Outcome) → HasCalls S (zero_start S) 0 w i ops outs → HoldsLast w i outs → EndsSpent ops outs → NoneAfterSpent S w es i
      → EndsSpent (ops ++ operations_begun es i) (outs ++ outcomes S w es i)
  run_ends [] w g s ops outs c holds spent unspent = same_calls w ops outs c holds spent
  run_ends (e ∷ es) w g s ops outs c holds spent unspent =
      let now = laws.more_last (zero_start S) w g i 0 member ops outs c holds e s.0 (keeps_machine w e i unspent.0) in
      let rest = run_ends es (after_event S w e) (laws.events (zero_start S) w g e s.0) s.1 (ops ++ operation_begun e i) (outs ++ outcome_of_event S w e i) (laws.more_calls (zero_start S) w g i 0 member ops outs c e s.0) now
      (event_ends w ops outs c holds spent g e s.0 unspent.0) unspent.1 in
      subst (λ (xs : List (List ℕ)). EndsSpent xs (outs ++ outcomes S w (e ∷ es) i)) (append_assoc ops (operation_begun e i) (operations_begun es i))
      (subst (λ (os : List Outcome). EndsSpent ((ops ++ operation_begun e i) ++ operations_begun es i) os) (append_assoc outs (outcome_of_event S w e i) (outcomes S (after_event S w e) es i)) rest)

-- a spent call is the last of its caller's
abbrev pub IsSpentLast : Plan → List Event → Type 0
IsSpentLast p es = (c : ℕ) → c < p.callers → EndsSpent (operations_begun es c) (outcomes (plan_setup p) (opening_for p) es c)

pub spent_last : (p : Plan) → IsPlayable p → (es : List Event) → IsSchedule (plan_setup p) (opening_for p) es → ((c : ℕ) → c < p.callers → NoneAfterSpent (plan_setup p) (opening_for p) es c) → IsSpentLast p es
spent_last p play es schedule unspent c lt =
    run_ends (plan_setup p) (IsLawfulFor p) play.laws c lt es (opening_for p) (good_opening p play) schedule [] [] (calls_here p play [] tt c lt) (last_here p play [] tt tt c lt) (λ x s among is. absurd (omega (arith, among))) (unspent c lt)
