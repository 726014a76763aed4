use Rattle.std.proofs.lemmas.List.{take_min}
use Rattle.of_report.proofs.printing.answered_values.Goals as goal

pub returns : goal.returns
returns c = let all = take_min c.args.reply.now.len c.as_slice-values.result.now in cc
