use Rattle.std.proofs.Common.{arith, ap, ◌∙◌}
use Rattle.of_script.specs.Reading.{parsed_number}
use Rattle.of_tool.proofs.CommandLemmas.{number_is}
use Rattle.of_tool.proofs.command.number.Goals as goal

pub returns : goal.returns
returns c = number_is c.args.most c.args.word.now c.number.result (omega arith) (c.number.ensures.value ∙ ap (parsed_number c.args.most) c.as_bytes.ensures.value)
