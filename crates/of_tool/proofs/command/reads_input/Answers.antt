use Rattle.of_tool.specs.Commands.{word_bytes}
use Rattle.of_tool.proofs.CommandLemmas.{asks_by, asks_not}
use Rattle.of_tool.proofs.command.reads_input.Goals as goal

pub returns-in-Some : goal.returns-in-Some
returns-in-Some c = asks_by (word_bytes c.args.words.now) c.in-Some.command c.in-Some.ensures c.reads.result c.reads.ensures

pub returns-in-None : goal.returns-in-None
returns-in-None c = asks_not (word_bytes c.args.words.now) c.in-None.ensures
