use Rattle.std.proofs.Common.{◌≡◌, ℕ, suc, ◌-◌, Option, Some, [], sym, ◌∙◌, subst, arith}
use Rattle.of_eval.specs.declared.scripts.Scripts.{Scripts}
use Rattle.of_eval.specs.Scripts.{scripts_meaning}
use Rattle.of_core.specs.declared.place.Outcome.{Outcome}
use Rattle.of_core.specs.Calls.{outcome_of_turn}
use Rattle.of_core.specs.MachineValue.{ended_outcome}
use Rattle.of_core.specs.Moment.{Bank, machine_of}
use Rattle.of_core.specs.Turn.{MakesTurns, turn_of_outcome}
use Rattle.of_play.specs.Play.{turns_by}
use Rattle.of_play.specs.ScheduleRun.{MakesMoves, NotesTurn, IsReplied}
use Rattle.of_play.specs.declared.schedule_run.ScheduleRun.{ScheduleRun}
use Rattle.of_play.proofs.PlaysMoments.{playable}
use Rattle.of_play.proofs.PlaysMoves.{goes_nowhere}
use Rattle.of_play.proofs.PlaysRows.{row_goes_on, row_replied, no_outcome_told, nothing_to_note}
use Rattle.of_play.proofs.schedule_run.ScheduleRun.turns_while_open.Goals as goal

pub note_end-requires-clause-reply : goal.note_end-requires-clause-reply
note_end-requires-clause-reply c =
    let p = c.args.plan.now in
    let r = c.requires.playing in
    let play = playable p r.plan c.plan_keeps_laws.ensures.laws c.plan_keeps_laws.ensures.moments c.plan_keeps_laws.ensures.zeros in
    let x : Bank Scripts = c.turns-made.new.self in
    let n : ℕ = c.turns-made.result - 1 in
    let more : c.turns-made.result ≡ suc n = omega (arith, c.if-made-gt0.true) in
    let turns : MakesTurns scripts_meaning c.args.caller (suc n) c.args.self.now.bank x = subst (λ (k : ℕ). MakesTurns scripts_meaning c.args.caller k c.args.self.now.bank x) more c.turns-made.ensures.turns in
    let says : ended_outcome (machine_of x c.args.caller) ≡ Some c.in-Some.outcome = sym c.answer.ensures ∙ c.in-Some.is in
    subst (λ (o : Option Outcome). IsReplied (turn_of_outcome o)) says
    (row_replied p play c.args.caller c.requires.caller c.args.self.now n x turns c.runs_are_lawful.ensures.replies r.events r.stands)

pub returns-in_ok-note_end : goal.returns-in_ok-note_end
returns-in_ok-note_end c =
    let p = c.args.plan.now in
    let play = playable p c.requires.playing.plan c.plan_keeps_laws.ensures.laws c.plan_keeps_laws.ensures.moments c.plan_keeps_laws.ensures.zeros in
    let x : Bank Scripts = c.turns-made.new.self in
    let n : ℕ = c.turns-made.result - 1 in
    let more : c.turns-made.result ≡ suc n = omega (arith, c.if-made-gt0.true) in
    let turns : MakesTurns scripts_meaning c.args.caller (suc n) c.args.self.now.bank x = subst (λ (k : ℕ). MakesTurns scripts_meaning c.args.caller k c.args.self.now.bank x) more c.turns-made.ensures.turns in
    let says : ended_outcome (machine_of x c.args.caller) ≡ Some c.in-Some.outcome = sym c.answer.ensures ∙ c.in-Some.is in
    let notes : NotesTurn c.args.caller (turn_of_outcome (ended_outcome (machine_of x c.args.caller))) (record c.args.self.now { bank = x }) c.note_end.new.self =
    subst (λ (o : Option Outcome). NotesTurn c.args.caller (turn_of_outcome o) (record c.args.self.now { bank = x }) c.note_end.new.self) (sym says) c.in_ok-note_end.ensures in
    record {
      few = c.turns-made.ensures.few;
      moves = subst (λ (k : ℕ). MakesMoves p (turns_by c.args.caller k) c.args.self.now c.note_end.new.self) (sym more)
          (row_goes_on p play c.args.caller c.requires.caller c.args.self.now n x turns c.note_end.new.self notes);
    }

pub returns-in_default : goal.returns-in_default
returns-in_default c =
    let p = c.args.plan.now in
    let play = playable p c.requires.playing.plan c.plan_keeps_laws.ensures.laws c.plan_keeps_laws.ensures.moments c.plan_keeps_laws.ensures.zeros in
    let x : Bank Scripts = c.turns-made.new.self in
    let n : ℕ = c.turns-made.result - 1 in
    let more : c.turns-made.result ≡ suc n = omega (arith, c.if-made-gt0.true) in
    let turns : MakesTurns scripts_meaning c.args.caller (suc n) c.args.self.now.bank x = subst (λ (k : ℕ). MakesTurns scripts_meaning c.args.caller k c.args.self.now.bank x) more c.turns-made.ensures.turns in
    let s : ScheduleRun = record c.args.self.now { bank = x } in
    let silent : outcome_of_turn (turn_of_outcome (ended_outcome (machine_of x c.args.caller))) ≡ [] = no_outcome_told _ (λ y is. c.in_default.not-Some y (c.answer.ensures ∙ is)) in
    record {
      few = c.turns-made.ensures.few;
      moves = subst (λ (k : ℕ). MakesMoves p (turns_by c.args.caller k) c.args.self.now s) (sym more)
          (row_goes_on p play c.args.caller c.requires.caller c.args.self.now n x turns s (nothing_to_note c.args.caller (turn_of_outcome (ended_outcome (machine_of x c.args.caller))) s silent));
    }

pub returns-else-made-gt0 : goal.returns-else-made-gt0
returns-else-made-gt0 c =
    let p = c.args.plan.now in
    let none : c.turns-made.result ≡ 0 = omega (arith, c.if-made-gt0.false) in
    let turns : MakesTurns scripts_meaning c.args.caller 0 c.args.self.now.bank c.turns-made.new.self = subst (λ (k : ℕ). MakesTurns scripts_meaning c.args.caller k c.args.self.now.bank c.turns-made.new.self) none c.turns-made.ensures.turns in
    let same : c.turns-made.new.self ≡ c.args.self.now.bank = turns.after in
    record {
      few = c.turns-made.ensures.few;
      moves = subst (λ (k : ℕ). MakesMoves p (turns_by c.args.caller k) c.args.self.now (record c.args.self.now { bank = c.turns-made.new.self })) (sym none)
          (subst (λ (x : Bank Scripts). MakesMoves p [] c.args.self.now (record c.args.self.now { bank = x })) (sym same) (goes_nowhere p c.args.self.now));
    }
