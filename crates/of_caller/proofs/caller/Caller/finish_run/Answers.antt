use Rattle.std.proofs.Common.{◌∙◌}
use Rattle.of_caller.proofs.caller.Caller.finish_run.Goals as goal

pub join_batch-requires : goal.join_batch-requires
join_batch-requires g c = record { owes = c.requires.owes; scanning = c.requires.kind ∙ c.if-in_scan.true; room = c.requires.room; gives = c.requires.gives }

pub answer_read-requires : goal.answer_read-requires
answer_read-requires g c = record { owes = c.requires.owes; reads = c.requires.kind ∙ c.if-in_scan.false; gives = (c.args.self.now.writes.entries, c.requires.gives) }
