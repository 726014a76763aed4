use Rattle.std.proofs.Common.{◌++◌, arith}
use Rattle.std.proofs.lemmas.Result.{on_ok_weaker}
use Rattle.of_core.specs.Events.{machine_in}
use Rattle.of_caller.specs.Left.{moment_after}
use Rattle.of_play.specs.Play.{next_begin}
use Rattle.of_play.proofs.PlaysMoments.{playable}
use Rattle.of_play.proofs.PlaysStand.{turn_goes_on}
use Rattle.of_play.proofs.PlaysReplies.{turn_replied}
use Rattle.of_play.proofs.schedule_run.ScheduleRun.turn.Goals as goal

pub note-requires : goal.note-requires
note-requires c =
    let p = c.args.plan.now in
    let r = c.requires.playing in
    let play = playable p r.plan c.plan_keeps_laws.ensures.laws c.plan_keeps_laws.ensures.moments c.plan_keeps_laws.ensures.zeros in
    let s = c.begin_next.new.self in
    let es = r.events ++ next_begin p c.args.caller (machine_in (moment_after p r.events) c.args.caller) in
    let st = c.begin_next.ensures r.events r.stands in
    record {
      answers = omega (arith, st.answers, c.requires.caller);
      reply = turn_replied p play es s st c.args.caller c.requires.caller c.runs_are_lawful.ensures.replies c.turn-turn.new.self c.turn-turn.ensures.after c.turn-turn.result c.turn-turn.ensures.turn;
    }

pub returns : goal.returns
returns c =
    on_ok_weaker c.note.result
    (turn_goes_on c.args.plan.now (playable c.args.plan.now c.requires.playing.plan c.plan_keeps_laws.ensures.laws c.plan_keeps_laws.ensures.moments c.plan_keeps_laws.ensures.zeros) c.args.caller c.requires.caller c.args.self.now c.begin_next.new.self c.begin_next.ensures c.turn-turn.new.self c.turn-turn.ensures.after c.turn-turn.result c.turn-turn.ensures.turn c.note.new.self)
    c.note.ensures
