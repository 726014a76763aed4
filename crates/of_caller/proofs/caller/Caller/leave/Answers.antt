use Rattle.of_caller.proofs.caller.Caller.leave.Goals as goal

pub returns-clause-idle : goal.returns-clause-idle
returns-clause-idle g c r q idle = c.idle_members.ensures c.args.self.member c.args.self.machine q.member idle
