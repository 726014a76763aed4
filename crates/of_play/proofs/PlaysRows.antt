-- Turns of a caller in a row whose call is open before each: only the last may end it.
use Rattle.std.proofs.Common.{◌≡◌, ℕ, zero, suc, ◌<◌, List, [], ◌∷◌, ◌++◌, replicate, refl, sym, ◌∙◌, ap, subst, arith, add-one, Option, Some, None}
use Rattle.std.proofs.lemmas.List.{append-nil, replicate_more}
use Rattle.of_eval.specs.declared.scripts.Scripts.{Scripts}
use Rattle.of_eval.specs.Scripts.{scripts_meaning}
use Rattle.of_plan.specs.Plan.{Plan}
use Rattle.of_core.specs.declared.bank.Turn.{Turn}
use Rattle.of_core.specs.declared.place.Outcome.{Outcome}
use Rattle.of_core.specs.declared.place.Place.{Place}
use Rattle.of_core.specs.declared.place.Place.TheVariants.{Idle}
use Rattle.of_core.specs.Machine.{CallState}
use Rattle.of_core.specs.TableMoment.{Moment}
use Rattle.of_core.specs.Events.{Event, Turns, after_event, after_events}
use Rattle.of_core.specs.Calls.{outcome_of_turn}
use Rattle.of_core.specs.MachineValue.{ended_outcome, ended_outcome_at}
use Rattle.of_core.specs.Turn.{IsIdle, MakesTurns, turn_of, turn_at, turn_of_outcome}
use Rattle.of_core.specs.Moment.{Bank, bank_after, bank_setup, machine_of, moment_of_bank}
use Rattle.of_caller.specs.Ends.{AreAnswers}
use Rattle.of_caller.specs.Left.{moment_after}
use Rattle.of_caller.specs.Runs.{RepliesAreHeld}
use Rattle.of_play.specs.Play.{events_from}
use Rattle.of_play.specs.ScheduleRun.{StandsAfter, MakesMoves, BeginsNext, NotesTurn, IsReplied, answers_in}
use Rattle.of_play.specs.declared.schedule_run.ScheduleRun.{ScheduleRun}
use Rattle.of_play.proofs.PlaysEvents.{run_append}
use Rattle.of_play.proofs.PlaysMoments.{IsPlayable}
use Rattle.of_play.proofs.PlaysMoves.{goes_nowhere, one_turn_more}
use Rattle.of_play.proofs.PlaysReplies.{turn_replied}
use Rattle.of_play.proofs.PlaysStand.{busy_stands, turn_goes_on}

-- what one turn more leaves of a bank
one_by_one : (b : Bank Scripts) (c k : ℕ) → bank_after scripts_meaning (replicate (suc k) (Turns c)) b ≡ bank_after scripts_meaning (Turns c ∷ []) (bank_after scripts_meaning (replicate k (Turns c)) b)
one_by_one b c k =
    let S = bank_setup scripts_meaning b in
    let w = moment_of_bank b in
    let last : replicate (suc k) (Turns c) ≡ replicate k (Turns c) ++ Turns c ∷ [] =
    ap (λ (n : ℕ). replicate n (Turns c)) (sym (add-one k)) ∙ sym (replicate_more k (Turns c)) in
    let is : after_events S w (replicate (suc k) (Turns c)) ≡ after_event S (after_events S w (replicate k (Turns c))) (Turns c) =
    ap (after_events S w) last ∙ run_append S w (replicate k (Turns c)) (Turns c ∷ []) in
    ap (λ (v : Moment). record b { words = v.words; machines = v.machines }) is

-- where a call was open, a turn says how it has ended, or that it is open
says : (p : Place) (m : CallState) → (p ≡ Idle → ⊥) → turn_at p m ≡ turn_of_outcome (ended_outcome m)
says Idle m busy = absurd (busy refl)
says p m busy = refl

none_at : (q : Place) (m : CallState) → (q ≡ Idle → ⊥) → outcome_of_turn (turn_of_outcome (ended_outcome_at q m)) ≡ []
none_at Idle m busy = absurd (busy refl)
none_at q m busy = refl

-- a turn that leaves a call open has no outcome
no_outcome : (p : Place) (m : CallState) → (IsIdle m → ⊥) → outcome_of_turn (turn_at p m) ≡ []
no_outcome Idle m busy = refl
no_outcome p m busy = none_at m.place m busy

pub no_outcome_told : (o : Option Outcome) → ((y : Outcome) → o ≡ Some y → ⊥) → outcome_of_turn (turn_of_outcome o) ≡ []
no_outcome_told None not = refl
no_outcome_told (Some y) not = absurd (not y refl)

-- and there is nothing to note
pub nothing_to_note : (c : ℕ) (t : Turn) (s : ScheduleRun) → outcome_of_turn t ≡ [] → NotesTurn c t s s
nothing_to_note c t s silent = record {
  bank = refl;
  answers = refl;
  others = λ i n. refl;
  told = λ os told. subst (λ (xs : List Outcome). AreAnswers xs (answers_in s c)) (sym (ap (λ (xs : List Outcome). os ++ xs) silent ∙ append-nil os)) told;
}

module _ (p : Plan) (plan : IsPlayable p) (c : ℕ) (h : c < p.callers) (s : ScheduleRun) where
  -- the code after so many turns, of which nothing is noted
  abbrev after_turns : ℕ → ScheduleRun
  after_turns k = record s { bank = bank_after scripts_meaning (replicate k (Turns c)) s.bank }

  abbrev StaysOpen : ℕ → Type 0
  StaysOpen n = (k : ℕ) → k < n → IsIdle (machine_of (after_turns k).bank c) → ⊥

  busy : (k : ℕ) → (IsIdle (machine_of (after_turns k).bank c) → ⊥) → BeginsNext p c (after_turns k) (after_turns k)
  busy k stays es st = busy_stands p plan es (after_turns k) st c h stays

  -- so many turns, where the call is open even after the last
  many : (k : ℕ) → StaysOpen (suc k) → MakesMoves p (replicate k (Turns c)) s (after_turns k)
  many zero stays = goes_nowhere p s
  many (suc k) stays =
      let now = after_turns (suc k) in
      let before : StaysOpen (suc k) = λ j few. stays j (let lt : j < suc (suc k) = omega (arith, few) in lt) in
      let t = turn_of (machine_of (after_turns k).bank c) (machine_of now.bank c) in
      let silent : outcome_of_turn t ≡ [] = no_outcome (machine_of (after_turns k).bank c).place (machine_of now.bank c) (stays (suc k) (omega arith)) in
      subst (λ (n : ℕ). MakesMoves p (replicate n (Turns c)) s now) (add-one k)
      (one_turn_more p c k s (after_turns k) now (many k before)
      (turn_goes_on p plan c h (after_turns k) (after_turns k) (busy k (before k (omega arith))) now.bank (one_by_one s.bank c k) t refl now (nothing_to_note c t now silent)))

  module _ (n : ℕ) (x : Bank Scripts) (turns : MakesTurns scripts_meaning c (suc n) s.bank x) where
    last_is : x ≡ bank_after scripts_meaning (Turns c ∷ []) (after_turns n).bank
    last_is = turns.after ∙ one_by_one s.bank c n

    was_open : IsIdle (machine_of (after_turns n).bank c) → ⊥
    was_open = turns.stays_open n (omega arith)

    last_says : turn_of_outcome (ended_outcome (machine_of x c)) ≡ turn_of (machine_of (after_turns n).bank c) (machine_of x c)
    last_says = sym (says (machine_of (after_turns n).bank c).place (machine_of x c) was_open)

    -- the last of them is noted
    pub row_goes_on : (now : ScheduleRun) → NotesTurn c (turn_of_outcome (ended_outcome (machine_of x c))) (record s { bank = x }) now → MakesMoves p (replicate (suc n) (Turns c)) s now
    row_goes_on now notes =
        subst (λ (k : ℕ). MakesMoves p (replicate k (Turns c)) s now) (add-one n)
        (one_turn_more p c n s (after_turns n) now (many n turns.stays_open)
        (turn_goes_on p plan c h (after_turns n) (after_turns n) (busy n was_open) x last_is (turn_of_outcome (ended_outcome (machine_of x c))) last_says now notes))

    -- and what it says is a reply where it is an answer
    pub row_replied : RepliesAreHeld → (es : List Event) → StandsAfter p es s → IsReplied (turn_of_outcome (ended_outcome (machine_of x c)))
    row_replied held es st =
        turn_replied p plan (es ++ events_from p (moment_after p es) (replicate n (Turns c))) (after_turns n) (many n turns.stays_open es st) c h held x last_is (turn_of_outcome (ended_outcome (machine_of x c))) last_says
