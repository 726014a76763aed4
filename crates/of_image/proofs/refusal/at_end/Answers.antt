use Rattle.of_image.proofs.Faults.{end_fault}
use Rattle.of_image.proofs.refusal.at_end.Goals as goal

pub returns : goal.returns
returns c = end_fault c.args.grammar c.args.text.now c.args.line.now c.args.number c.requires.line c.requires.bad c.requires.none
