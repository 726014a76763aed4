use Rattle.std.proofs.lemmas.Result.{IfOk-weaker}
use Rattle.example_bank.specs.Transfers.{KeepsMoney}
use Rattle.example_bank.specs.Days.{GoOnWithJobs}
use Rattle.example_bank.proofs.Together.{days_join, keeps_money}
use Rattle.example_bank.proofs.days.two_days.Goals as goal

pub returns-clause-jobs : goal.returns-clause-jobs
returns-clause-jobs g c =
    let saved = c.args.saved.now in
    let noon = c.in_ok-noon.noon in
    let xs = c.args.clerks.items in
    let ys = c.in_ok-noon.clerks.items in
    IfOk-weaker c.day-2.result (λ r. GoOnWithJobs noon r.0 ys r.1.items) (λ r. GoOnWithJobs saved r.0 xs r.1.items)
    (λ r later. days_join c.histories_join.ensures saved noon r.0 xs ys r.1.items c.in_ok-noon.ensures.clerks c.in_ok-noon.ensures.jobs later) c.day-2.ensures.jobs

pub returns-clause-money : goal.returns-clause-money
returns-clause-money g c =
    let saved = c.args.saved.now in
    let xs = c.args.clerks.items in
    IfOk-weaker c.day-2.result (λ r. GoOnWithJobs saved r.0 xs r.1.items) (λ r. KeepsMoney saved r.0) (λ r on. keeps_money saved r.0 xs r.1.items on) (returns-clause-jobs g c)
