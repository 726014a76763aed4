use Rattle.std.proofs.Common.{arith, ap, length, ◌∷◌, [], Some, length-append}
use Rattle.of_cells.specs.Serving.{IsNew}
use Rattle.of_cells.proofs.Seats.{enrols_first, stand_more}
use Rattle.of_cells.proofs.seating.seat_all.Goals as goal

pub loop-number-preserved : goal.loop-number-preserved
loop-number-preserved g c =
    let inv = c.loop-number.invariant in
    let cs = c.loop-number.callers.items in
    let k = c.in_ok-caller.caller in
    let is = c.in_ok-push.ensures.items in
    record {
      pass = c.in_ok-caller.ensures.pass;
      long = omega (arith, ap length is, length-append cs (Some k ∷ []), inv.long);
      new = stand_more (IsNew g.W.Work.meaning c.args.row.now) c.loop-number.number cs c.push.new.self.items k inv.long is inv.new c.in_ok-caller.ensures.caller;
    }

pub loop-number-init : goal.loop-number-init
loop-number-init g c = record {
  pass = enrols_first c.args.row.now c.args.pass c.requires;
  long = ap length c.new-callers.ensures.items;
  new = λ n lt. absurd (omega (arith, lt));
}

pub returns-clause-new : goal.returns-clause-new
returns-clause-new g c n lt = c.loop-number.invariant.new n (omega (arith, lt, c.loop-number-test.false, c.shape-count.ensures.callers))
