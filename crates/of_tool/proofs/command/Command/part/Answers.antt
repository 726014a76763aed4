use Rattle.std.proofs.Common.{arith}
use Rattle.of_tool.proofs.CommandLemmas.{no_number}
use Rattle.of_tool.proofs.command.Command.part.Goals as goal

pub returns-then-number-eq0 : goal.returns-then-number-eq0
returns-then-number-eq0 c = no_number c.args.number.now c.in_ok-number.number (omega arith) c.in_ok-number.ensures.1
