use Rattle.example_accounts.proofs.Tellers.{works_still, works_on}
use Rattle.example_accounts.proofs.teller.Teller.work.Goals as goal

pub loop-init : goal.loop-init
loop-init c = works_still c.args.self.now c.requires

pub loop-preserved : goal.loop-preserved
loop-preserved c = works_on c.args.self.now c.loop.self c.make_next.new.self c.loop.invariant c.make_next.ensures
