use Rattle.of_core.proofs.bank.Bank.stands.Goals as goal

pub returns : goal.returns
returns g c = rw (← c.self.view_is) c.self.invariant.reached
