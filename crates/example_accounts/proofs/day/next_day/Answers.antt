use Rattle.std.proofs.Common.{ℕ, List, subst, sym, ◌∙◌, arith}
use Rattle.example_accounts.specs.declared.accounts.Accounts.{Accounts}
use Rattle.example_accounts.specs.Days.{IsEvening}
use Rattle.example_accounts.proofs.day.next_day.Goals as goal

pub returns : goal.returns
returns g c =
    let e = c.in_ok-memory.ensures in
    let cells = e.goes_on ∙ sym c.requires.cells in
    record {
      rest = c.in_ok-jobs.jobs.items;
      left = c.in_ok-jobs.ensures;
      evening = subst (λ (z : Accounts × (List ℕ × (ℕ → ℕ))). IsEvening z.0 z.1.0 z.1.1 c.in_ok-jobs.jobs.items c.in_ok-next.next) (λ i. (e.work i, (cells i, λ n. e.tickets n i))) c.in_ok-next.ensures;
    }
