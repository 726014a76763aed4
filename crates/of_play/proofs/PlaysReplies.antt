-- The raw reply of each answered call of a plan is that of some reply.
use Rattle.std.proofs.Common.{◌≡◌, ℕ, ◌<◌, List, [], ◌∷◌, ◌++◌, length, get_or, refl, sym, ◌∙◌, ap, subst, arith, length-append}
use Rattle.std.proofs.lemmas.List.{get_or_push}
use Rattle.of_eval.specs.declared.scripts.Scripts.{Scripts}
use Rattle.of_eval.specs.Scripts.{scripts_meaning}
use Rattle.of_plan.specs.Plan.{Plan}
use Rattle.of_plan.specs.Report.{empty_start}
use Rattle.of_core.specs.declared.bank.Turn.{Turn}
use Rattle.of_core.specs.declared.bank.Turn.TheVariants.{Idle, Open, Ended}
use Rattle.of_core.specs.declared.place.Outcome.{Outcome}
use Rattle.of_core.specs.declared.place.Outcome.TheVariants.{Answered, Spent, Lost}
use Rattle.of_core.specs.Moment.{Bank, bank_after, machine_of}
use Rattle.of_core.specs.Turn.{turn_of}
use Rattle.of_core.specs.Events.{Event, Turns, machine_in, zero_start}
use Rattle.of_core.specs.Calls.{operations_begun, outcomes, outcome_of_turn, no_outcome}
use Rattle.of_caller.specs.Tables.{plan_setup, opening_for}
use Rattle.of_caller.specs.Ends.{OutcomeHoldsReply}
use Rattle.of_caller.specs.Left.{IsOfPlan, moment_after}
use Rattle.of_caller.specs.Runs.{RepliesAreHeld}
use Rattle.of_play.specs.ScheduleRun.{EventsMayFollow, StandsAfter, IsReplied}
use Rattle.of_play.specs.declared.schedule_run.ScheduleRun.{ScheduleRun}
use Rattle.of_play.proofs.PlaysMoments.{IsPlayable}
use Rattle.of_play.proofs.PlaysStart.{moment_here}
use Rattle.of_play.proofs.PlaysGood.{good_at, never_lost}
use Rattle.of_play.proofs.PlaysFollow.{turn_follows}
use Rattle.of_play.proofs.PlaysStand.{turn_says, turn_ends}

-- the calls begun are those of the plan
pub of_plan : (p : Plan) (es : List Event) → EventsMayFollow p es → IsOfPlan p es
of_plan p es f c h = ((machine_in (moment_after p es) c).made, f.made c h, f.begun c h)

module _ (p : Plan) (plan : IsPlayable p) (es : List Event) (s : ScheduleRun) (st : StandsAfter p es s) (c : ℕ) (h : c < p.callers) (replied : RepliesAreHeld) (x : Bank Scripts) (leaves : x ≡ bank_after scripts_meaning (Turns c ∷ []) s.bank) where
  -- what a turn says is a reply where it is an answer
  pub turn_replied : (r : Turn) → r ≡ turn_of (machine_of s.bank c) (machine_of x c) → IsReplied r
  turn_replied Idle says = tt
  turn_replied Open says = tt
  turn_replied (Ended (Spent q)) says = tt
  turn_replied (Ended (Lost q)) says = absurd (never_lost p plan (moment_after p es) (good_at p plan es st.follows.schedule) c h q (sym (turn_says p plan es s st c h x leaves (Ended (Lost q)) says)))
  turn_replied (Ended (Answered q announced raw steps)) says =
      let o = Answered q announced raw steps in
      let gs = es ++ Turns c ∷ [] in
      let f = turn_follows p plan es st.follows c h in
      let m = moment_here p plan gs f.schedule (of_plan p gs f) in
      let outs = outcomes (plan_setup p) (opening_for p) es c in
      let all : outcomes (plan_setup p) (opening_for p) gs c ≡ outs ++ o ∷ [] = turn_ends p plan es s st c h ∙ ap (λ (t : Turn). outs ++ outcome_of_turn t) (sym (turn_says p plan es s st c h x leaves _ says)) in
      let among : length outs < length (outcomes (plan_setup p) (opening_for p) gs c) = omega (arith, ap length all, length-append outs (o ∷ [])) in
      let is : get_or (outcomes (plan_setup p) (opening_for p) gs c) (length outs) no_outcome ≡ o = ap (λ (os : List Outcome). get_or os (length outs) no_outcome) all ∙ get_or_push outs o no_outcome (length outs) refl in
      subst OutcomeHoldsReply is (replied p (empty_start p) (zero_start (plan_setup p)) (moment_after p gs) (operations_begun gs) (outcomes (plan_setup p) (opening_for p) gs) m c (length outs) h among)
