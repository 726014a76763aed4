use Rattle.std.proofs.Common.{subst, sym}
use mathlib.Core.List.{IsPrefix}
use Rattle.of_row.specs.Views.{View}
use Rattle.of_row.specs.declared.member.Member.{Member}
use Rattle.of_cells.specs.Serving.{KeepsSo, IsKeptOf}
use Rattle.of_cells.proofs.Seats.{keeps_left, keeps_right, keeps_own}
use Rattle.of_cells.proofs.seating.gather_one.Goals as goal

pub returns-clause-own : goal.returns-clause-own
returns-clause-own g c =
    let k = c.args.caller in
    let n = c.args.number in
    subst (λ (v : View). KeepsSo n (IsKeptOf k) v.kept) (sym c.join.ensures.view)
    (keeps_right n (IsKeptOf k) c.args.pass.seat.me.0.kept c.leave.result.seat.me.0.kept
    (subst (λ (m : Member). KeepsSo n (IsKeptOf k) m.seat.me.0.kept) (sym c.leave.ensures.is) (keeps_own g.W.Work.meaning c.args.row.now n k c.requires.serves)))

pub returns-clause-others : goal.returns-clause-others
returns-clause-others g c n k h =
    subst (λ (v : View). KeepsSo n (IsKeptOf k) v.kept) (sym c.join.ensures.view)
    (keeps_left n (IsKeptOf k) c.args.pass.seat.me.0.kept c.leave.result.seat.me.0.kept h)

pub returns-clause-past : goal.returns-clause-past
returns-clause-past g c = subst (λ (m : Member). IsPrefix m.seat.me.0.past c.join.result.seat.me.0.past) c.leave.ensures.is c.join.ensures.seen.3

pub returns-clause-more : goal.returns-clause-more
returns-clause-more g c = c.join.ensures.seen.2
