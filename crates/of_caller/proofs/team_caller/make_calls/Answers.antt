use Rattle.std.proofs.Common.{arith, ap, subst, sym, length, ◌+◌, ◌-◌, ◌≡◌, ◌∙◌}
use Rattle.of_plan.specs.Plan.{scripts_of}
use Rattle.of_caller.specs.Lanes.{LaneAt}
use Rattle.of_caller.proofs.OneCall.{ends_done}
use Rattle.of_caller.proofs.StopSteps.{done_now, keeps_then, gave_then}
use Rattle.of_caller.proofs.team_caller.make_calls.Goals as goal

pub returns-clause-ends : goal.returns-clause-ends
returns-clause-ends g c =
    let lane = c.loop-index.lane in
    let ready = c.loop-index.invariant.ready in
    ends_done c.args.plan.now c.args.row.now lane.first lane.number lane.caller lane.answers.items (c.loop-index.index - c.args.lane.now.first) ready.caller ready.lane.first
    (let many : length (scripts_of c.args.plan.now lane.number) ≡ length c.scripts.result.now = ap (λ n. length (scripts_of c.args.plan.now n)) c.loop-index.invariant.same.0 ∙ sym (ap length c.scripts.ensures.value) in
    omega (arith, c.loop-index-test.false, many, c.requires.ready.lane.first, c.loop-index.invariant.same.1))

pub returns-clause-stop : goal.returns-clause-stop
returns-clause-stop g c = done_now _ _ _ _ c.loop-index.invariant.gave

pub returns-in-Some-clause-stop : goal.returns-in-Some-clause-stop
returns-in-Some-clause-stop g c = keeps_then _ _ _ _ _ c.in-Some.ending c.loop-index.invariant.gave c.in-Some.ensures.stop

pub loop-index-preserved : goal.loop-index-preserved
loop-index-preserved g c =
    let p = c.args.plan.now in
    let first = c.args.lane.now.first in
    let inv = c.loop-index.invariant in
    let same : c.loop-index.index - first + 1 ≡ c.loop-index.index + 1 - first = omega (arith, c.loop-index.auto.index) in
    record {
      ready = subst (LaneAt p c.args.row.now c.make_call.new.lane) same (subst (λ n. LaneAt p c.args.row.now c.make_call.new.lane (c.loop-index.index - n + 1)) inv.same.1 c.in_default.ensures.goes);
      gave = gave_then _ _ _ _ _ _ inv.gave c.in_default.ensures.gave;
      same = (c.in_default.ensures.same.0 ∙ inv.same.0, c.in_default.ensures.same.1 ∙ inv.same.1);
    }
