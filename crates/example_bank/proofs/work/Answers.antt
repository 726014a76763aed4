use Rattle.std.proofs.Common.{◌∙◌}
use Rattle.std.proofs.lemmas.Result.{IfOk-weaker}
use Rattle.example_bank.specs.Transfers.{KeepsMoney}
use Rattle.example_bank.specs.Founding.{HasMoney}
use Rattle.example_bank.proofs.work.Goals as goal

pub returns-clause-money : goal.returns-clause-money
returns-clause-money g c =
    let first = c.in_ok-founded.ensures.money in
    IfOk-weaker c.two_days.result (λ r. KeepsMoney c.in_ok-founded.founded r.0) (λ r. HasMoney 1600 r.0) (λ r keeps s holds. keeps first.store s first.holds holds ∙ first.money) c.two_days.ensures.money
