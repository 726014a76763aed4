use Rattle.of_memory.proofs.Holding.{put_back, knows_others, others_open}
use Rattle.of_memory.proofs.handle.Handle.leave.Goals as goal

pub returns-clause-memory : goal.returns-clause-memory
returns-clause-memory c =
    put_back c.args.memory.now _ c.requires.memory c.leave.ensures.memory c.leave.ensures.still c.args.self c.leave.ensures.back c.requires.handle

pub returns-clause-open_call : goal.returns-clause-open_call
returns-clause-open_call c script opened = record { is = opened.is; opened = c.leave.ensures.open_call _ opened.opened }

pub returns-clause-others : goal.returns-clause-others
returns-clause-others c = knows_others _ c.args.memory.now _ c.leave.ensures.others

pub returns-clause-others_open : goal.returns-clause-others_open
returns-clause-others_open c = others_open _ c.args.memory.now _ c.leave.ensures.others_open
