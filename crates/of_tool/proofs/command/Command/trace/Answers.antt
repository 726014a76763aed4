use Rattle.std.proofs.Common.{arith}
use Rattle.of_tool.proofs.CommandLemmas.{no_events}
use Rattle.of_tool.proofs.command.Command.trace.Goals as goal

pub returns-then-count-eq0 : goal.returns-then-count-eq0
returns-then-count-eq0 c = no_events c.args.first.now c.args.count.now c.in_ok-count.count (omega arith) c.in_ok-count.ensures.1
