use Rattle.std.proofs.Common.{ℕ, List, subst}
use Rattle.example_accounts.specs.declared.accounts.Accounts.{Accounts}
use Rattle.example_accounts.specs.Days.{IsEvening}
use Rattle.example_accounts.proofs.day.first_day.Goals as goal

pub returns : goal.returns
returns g c =
    let e = c.in_ok-memory.ensures in
    subst (λ (z : Accounts × (List ℕ × (ℕ → ℕ))). IsEvening z.0 z.1.0 z.1.1 c.args.jobs.items c.in_ok-evening.evening) (λ i. (e.work i, (e.zeros i, λ n. e.tickets n i))) c.in_ok-evening.ensures
