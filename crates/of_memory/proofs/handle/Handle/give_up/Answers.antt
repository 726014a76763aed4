use Rattle.of_memory.proofs.Losing.{given_up, gives_calls}
use Rattle.of_memory.proofs.handle.Handle.give_up.Goals as goal

pub returns-clause-lost : goal.returns-clause-lost
returns-clause-lost c = given_up c.args.self _ c.requires c.give_up.ensures.lost c.give_up.ensures.calls

pub returns-clause-calls : goal.returns-clause-calls
returns-clause-calls c = gives_calls c.args.self _ c.give_up.ensures.calls
