-- The code goes on move by move.
use Rattle.std.proofs.Common.{◌≡◌, ℕ, ◌+◌, ◌<◌, List, [], ◌∷◌, ◌++◌, replicate, sym, ◌∙◌, ap, subst}
use Rattle.std.proofs.lemmas.List.{append_assoc, append-nil, replicate-append-replicate}
use Rattle.of_eval.specs.declared.scripts.Scripts.{Scripts}
use Rattle.of_eval.specs.Scripts.{scripts_meaning}
use Rattle.of_plan.specs.declared.plan.Item.{Item}
use Rattle.of_plan.specs.declared.plan.Item.TheVariants.{Evict}
use Rattle.of_plan.specs.Plan.{Plan, IsScheduleItem, durable_cells_of}
use Rattle.of_core.specs.Moment.{Bank, bank_after}
use Rattle.of_core.specs.Events.{Event, Turns, Raises}
use Rattle.of_caller.specs.Tables.{plan_setup, opening_for}
use Rattle.of_caller.specs.Left.{moment_after}
use Rattle.of_play.specs.Play.{item_events, events_from}
use Rattle.of_play.specs.ScheduleRun.{StandsAfter, IsPlaying, MakesMoves}
use Rattle.of_play.specs.declared.schedule_run.ScheduleRun.{ScheduleRun}
use Rattle.of_play.proofs.PlaysMoments.{IsPlayable}
use Rattle.of_play.proofs.PlaysEvents.{run_append, events_append}
use Rattle.of_play.proofs.PlaysStand.{raise_stands}

-- moves after moves
pub goes_further : (p : Plan) (ms ns : List Event) (r s t : ScheduleRun) → MakesMoves p ms r s → MakesMoves p ns s t → MakesMoves p (ms ++ ns) r t
goes_further p ms ns r s t f g es st =
    let S = plan_setup p in
    let w = moment_after p es in
    let fs = events_from p w ms in
    subst (λ (gs : List Event). StandsAfter p gs t)
    (append_assoc es fs _
    ∙ ap (λ (gs : List Event). es ++ (fs ++ gs)) (ap (λ v. events_from p v ns) (run_append S (opening_for p) es fs))
    ∙ ap (λ (gs : List Event). es ++ gs) (sym (events_append p w ms ns)))
    (g (es ++ fs) (f es st))

pub goes_nowhere : (p : Plan) (s : ScheduleRun) → MakesMoves p [] s s
goes_nowhere p s es st = subst (λ (gs : List Event). StandsAfter p gs s) (sym (append-nil es)) st

pub plays_on : (p : Plan) (ms : List Event) (s t : ScheduleRun) → IsPlaying p s → MakesMoves p ms s t → IsPlaying p t
plays_on p ms s t r f = record { plan = r.plan; events = r.events ++ events_from p (moment_after p r.events) ms; stands = f r.events r.stands }

-- turns of a caller after turns
pub more_turns : (p : Plan) (c n k : ℕ) (r s t : ScheduleRun) → MakesMoves p (replicate n (Turns c)) r s → MakesMoves p (replicate k (Turns c)) s t → MakesMoves p (replicate (n + k) (Turns c)) r t
more_turns p c n k r s t f g = subst (λ (ms : List Event). MakesMoves p ms r t) (replicate-append-replicate n k (Turns c)) (goes_further p (replicate n (Turns c)) (replicate k (Turns c)) r s t f g)

pub one_turn_more : (p : Plan) (c n : ℕ) (r s t : ScheduleRun) → MakesMoves p (replicate n (Turns c)) r s → MakesMoves p (Turns c ∷ []) s t → MakesMoves p (replicate (n + 1) (Turns c)) r t
one_turn_more p c n r s t f g = more_turns p c n 1 r s t f g

-- an eviction
pub evict_goes_on : (p : Plan) → IsPlayable p → (item : Item) (a : ℕ) → item ≡ Evict a → IsScheduleItem p item → (s : ScheduleRun) (x : Bank Scripts) → x ≡ bank_after scripts_meaning (Raises a ∷ []) s.bank → MakesMoves p (item_events item) s (record s { bank = x })
evict_goes_on p plan item a is within s x leaves =
    let h : a < durable_cells_of p = subst (IsScheduleItem p) is within in
    subst (λ (y : Item). MakesMoves p (item_events y) s (record s { bank = x })) (sym is) (λ es st. raise_stands p plan es s st a h x leaves)
