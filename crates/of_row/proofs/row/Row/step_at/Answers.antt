use Rattle.std.proofs.Common.{Bool, subst, sym}
use Rattle.of_core.specs.OwedRun.{after_run_if}
use Rattle.of_row.specs.Rows.{IsMemberOf, StepsMember}
use Rattle.of_row.proofs.row.Row.step_at.Goals as goal

pub make_run-requires : goal.make_run-requires
make_run-requires g c = c.in_ok-step_owing.ensures.owes (sym c.if-is_some.ensures)

pub returns-else-is_some-clause-member : goal.returns-else-is_some-clause-member
returns-else-is_some-clause-member g c =
    let after = c.step_owing.new in
    subst (λ (owed : Bool). IsMemberOf g.W.Work.meaning after.member (after_run_if g.W.Work.meaning owed after.machine)) (sym c.if-is_some.ensures) c.in_ok-step_owing.ensures.member

pub returns-else-is_some-clause-step : goal.returns-else-is_some-clause-step
returns-else-is_some-clause-step g c =
    let after = c.step_owing.new in
    subst (λ (owed : Bool). StepsMember g.W.Work.meaning g.W.Work.lawful c.args.self.now c.args.machine.now c.args.member.now (after_run_if g.W.Work.meaning owed after.machine) after.member) (sym c.if-is_some.ensures) c.in_ok-step_owing.ensures.step
