use Rattle.std.proofs.Common.{[], ◌∷◌, length, arith, ap, refl, length-append}
use Rattle.of_play.specs.ScheduleRun.{CallerEndsAs}
use Rattle.of_play.proofs.PlaysEnds.{leaves_as, each_pushed}
use Rattle.of_play.proofs.schedule_run.ScheduleRun.end.Goals as goal

pub loop-caller-preserved : goal.loop-caller-preserved
loop-caller-preserved c =
    let l = c.loop-caller in
    let pushed = c.in_ok-push.ensures.items in
    record {
      count = omega (arith, ap length pushed, length-append l.endings.items (c.ending.result ∷ []), l.invariant.count);
      each = each_pushed (λ i ending. CallerEndsAs c.args.plan.now i c.args.self ending) l.endings.items c.push.new.self.items c.ending.result l.caller pushed l.invariant.count l.invariant.each c.ending.ensures;
    }

pub returns : goal.returns
returns c = leaves_as c.args.plan.now c.args.self _ refl c.words.ensures (omega (arith, c.loop-caller.invariant.count)) (λ i h. c.loop-caller.invariant.each i (omega arith))
