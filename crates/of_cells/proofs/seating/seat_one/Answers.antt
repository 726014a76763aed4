use Rattle.std.proofs.Common.{arith}
use Rattle.of_cells.proofs.Seats.{enrols_next, new_caller}
use Rattle.of_cells.proofs.seating.seat_one.Goals as goal

pub unreachable-requires : goal.unreachable-requires
unreachable-requires g c = let b = c.requires.pass.below c.args.number c.in_default.ensures.refused.2 in omega (arith, b)

pub returns-in-Ok-new-clause-caller : goal.returns-in-Ok-new-clause-caller
returns-in-Ok-new-clause-caller g c =
    new_caller g.W.Work.meaning c.args.row.now c.args.number c.args.pass c.in-Ok.member c.in-Ok.pass c.in-Ok-new.caller c.in-Ok.ensures.enrolled c.in-Ok-new.ensures.caller c.in-Ok-new.ensures.member c.in-Ok-new.ensures.idle c.in-Ok-new.ensures.made

pub returns-in-Ok-new-clause-pass : goal.returns-in-Ok-new-clause-pass
returns-in-Ok-new-clause-pass g c = enrols_next g.W.Work.meaning c.args.row.now c.args.number c.args.pass c.in-Ok.member c.in-Ok.pass c.requires.pass c.in-Ok.ensures.enrolled
