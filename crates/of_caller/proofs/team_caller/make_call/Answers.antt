use Rattle.std.proofs.Common.{arith, Err, ap, subst, length, ◌∙◌, ◌+◌, ◌-◌, ◌≡◌}
use Rattle.of_caller.specs.Brakes.{StopsAt}
use Rattle.of_caller.proofs.OneCall.{op_is, held_of, goes_of, stopped_of, spent_of}
use Rattle.of_caller.proofs.StopSteps.{gave_for, stops_now, spent_now}
use Rattle.of_caller.proofs.team_caller.make_call.Goals as goal

pub push_answer-requires-clause-held : goal.push_answer-requires-clause-held
push_answer-requires-clause-held g c =
    let p = c.args.plan.now in
    let lane = c.args.lane.now in
    let n = lane.first in
    let i = c.args.index - n in
    let ready = c.requires.ready in
    let at : n + i ≡ c.args.index = omega (arith, c.requires.from) in
    let op = op_is p n lane.number i c.args.index at c.scripts.result.now c.scripts.ensures.value (omega (arith, c.requires.index, ap length c.scripts.ensures.value)) c.index-scripts-index.result c.index-scripts-index.is c.to_words-count.result c.to_words-count.ensures.count _ _ c.to_words-count.ensures.words in
    let told = c.in-Ok.ensures.told in
    held_of p c.args.row.now c.requires.row n lane.number lane.caller lane.answers.items i ready.caller (omega (arith, c.requires.from, c.requires.index)) _ op _ c.call.new.self c.in-Ok.ensures.caller _ _ _ told ready.lane.number c.in-Ok.outcome told.result.0 told.result.1

pub returns-in-Ok-clause-goes : goal.returns-in-Ok-clause-goes
returns-in-Ok-clause-goes g c =
    let p = c.args.plan.now in
    let lane = c.args.lane.now in
    let n = lane.first in
    let i = c.args.index - n in
    let ready = c.requires.ready in
    let at : n + i ≡ c.args.index = omega (arith, c.requires.from) in
    let op = op_is p n lane.number i c.args.index at c.scripts.result.now c.scripts.ensures.value (omega (arith, c.requires.index, ap length c.scripts.ensures.value)) c.index-scripts-index.result c.index-scripts-index.is c.to_words-count.result c.to_words-count.ensures.count _ _ c.to_words-count.ensures.words in
    let told = c.in-Ok.ensures.told in
    record {
      lane = record { number = ready.lane.number; first = ready.lane.first; room = omega (arith, ready.lane.room, c.push_answer.ensures.room) };
      caller = goes_of p c.args.row.now c.requires.row n lane.number lane.caller lane.answers.items i ready.caller (omega (arith, c.requires.from, c.requires.index)) _ op _ c.call.new.self c.in-Ok.ensures.caller _ _ _ told c.in-Ok.outcome told.result.0 told.result.1 c.push_answer.new.answers.items c.push_answer.ensures.told;
    }

pub returns-in-Err-Stopped-clause-ends : goal.returns-in-Err-Stopped-clause-ends
returns-in-Err-Stopped-clause-ends g c =
    let p = c.args.plan.now in
    let lane = c.args.lane.now in
    let n = lane.first in
    let i = c.args.index - n in
    let ready = c.requires.ready in
    let at : n + i ≡ c.args.index = omega (arith, c.requires.from) in
    let op = op_is p n lane.number i c.args.index at c.scripts.result.now c.scripts.ensures.value (omega (arith, c.requires.index, ap length c.scripts.ensures.value)) c.index-scripts-index.result c.index-scripts-index.is c.to_words-count.result c.to_words-count.ensures.count _ _ c.to_words-count.ensures.words in
    stopped_of p c.args.row.now c.requires.row n lane.number lane.caller lane.answers.items i ready.caller (omega (arith, c.requires.from, c.requires.index)) _ op _ c.call.new.self c.call.ensures.caller _ _ _ c.call.ensures.told c.in-Err-Stopped.asked (c.in-Err-Stopped.is ∙ ap (λ e. Err e) c.in-Err-Stopped.field-0-is)

pub returns-in-Err-Spent-clause-ends : goal.returns-in-Err-Spent-clause-ends
returns-in-Err-Spent-clause-ends g c =
    let p = c.args.plan.now in
    let lane = c.args.lane.now in
    let n = lane.first in
    let i = c.args.index - n in
    let ready = c.requires.ready in
    let at : n + i ≡ c.args.index = omega (arith, c.requires.from) in
    let op = op_is p n lane.number i c.args.index at c.scripts.result.now c.scripts.ensures.value (omega (arith, c.requires.index, ap length c.scripts.ensures.value)) c.index-scripts-index.result c.index-scripts-index.is c.to_words-count.result c.to_words-count.ensures.count _ _ c.to_words-count.ensures.words in
    spent_of p c.args.row.now c.requires.row n lane.number lane.caller lane.answers.items i ready.caller (omega (arith, c.requires.from, c.requires.index)) _ op _ c.call.new.self c.call.ensures.caller _ _ _ c.call.ensures.told c.in-Err-Spent.seq (c.in-Err-Spent.is ∙ ap (λ e. Err e) c.in-Err-Spent.field-0-is)

pub returns-in-Ok-clause-gave : goal.returns-in-Ok-clause-gave
returns-in-Ok-clause-gave g c =
    let told = c.in-Ok.ensures.told in
    gave_for _ _ _ _ _ told.steps c.in-Ok.outcome _ _ c.in-Ok.ensures.left told.rise (omega arith) told.result.0 told.result.1.steps c.push_answer.ensures.told

pub returns-in-Err-Stopped-clause-stop : goal.returns-in-Err-Stopped-clause-stop
returns-in-Err-Stopped-clause-stop g c = stops_now _ _ c.in-Err-Stopped.asked (subst (StopsAt _) (c.in-Err-Stopped.is ∙ ap (λ e. Err e) c.in-Err-Stopped.field-0-is) c.call.ensures.stop)

pub returns-in-Err-Spent-clause-stop : goal.returns-in-Err-Spent-clause-stop
returns-in-Err-Spent-clause-stop g c = spent_now _ _ c.in-Err-Spent.seq
