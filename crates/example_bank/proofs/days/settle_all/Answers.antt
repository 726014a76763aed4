use Rattle.std.proofs.Common.{◌<◌, length, length-set, ◌∙◌, arith}
use Rattle.example_bank.proofs.Settling.{may_settle, settles_next, others_next}
use Rattle.example_bank.proofs.days.settle_all.Goals as goal

pub settle-requires-clause-left : goal.settle-requires-clause-left
settle-requires-clause-left c =
    let l = c.loop-number in
    let lt : l.number < length c.args.clerks.now.items = omega (arith, c.loop-number-test.true, l.auto.number-end, c.len-number-end.ensures, c.args.clerks.now.ok.0) in
    may_settle c.args.clerks.now.items l.clerks.items l.number c.index_mut.result.now l.invariant.count lt l.invariant.others c.index_mut.ensures.value c.requires.left

pub loop-number-preserved : goal.loop-number-preserved
loop-number-preserved c =
    let l = c.loop-number in
    let first = c.args.clerks.now.items in
    let y = c.index_mut.result.now in
    let z = c.settle.new.self in
    let lt : l.number < length first = omega (arith, c.loop-number-test.true, l.auto.number-end, c.len-number-end.ensures, c.args.clerks.now.ok.0) in
    record {
      count = length-set l.clerks.items l.number z ∙ l.invariant.count;
      settled = settles_next first l.clerks.items l.number y l.invariant.count lt l.invariant.others c.index_mut.ensures.value c.args.before.now c.args.after.now z l.invariant.settled c.settle.ensures;
      others = others_next first l.clerks.items l.number y l.invariant.count lt l.invariant.others c.index_mut.ensures.value c.args.before.now c.args.after.now z;
    }
