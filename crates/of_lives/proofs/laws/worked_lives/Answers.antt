use Rattle.std.proofs.Common.{true, None, arith}
use Rattle.of_plan.specs.Worked.{worked_entry}
use Rattle.of_lives.proofs.WorkedLives.{second_is_legal, anew_is_legal, second_is_not}
use Rattle.of_lives.proofs.laws.worked_lives.Goals as goal

pub returns-clause-follows : goal.returns-clause-follows
returns-clause-follows c = (c.worked_reports.ensures.legal, (second_is_legal, tt))

pub returns-clause-renumbered : goal.returns-clause-renumbered
returns-clause-renumbered c = ((c.worked_reports.ensures.legal, tt), ((anew_is_legal, tt), tt))

pub returns-clause-not_renumbered : goal.returns-clause-not_renumbered
returns-clause-not_renumbered c lives = second_is_not lives

pub returns-clause-sequence_forgotten : goal.returns-clause-sequence_forgotten
returns-clause-sequence_forgotten c lives = let e = lives.1.0.by_sequence.sequences 0 (worked_entry 0 0 0 true None) (omega arith) in absurd (omega (arith, e.0))

pub returns-clause-read_skipped : goal.returns-clause-read_skipped
returns-clause-read_skipped c lives = let e = lives.1.0.endings 0 (omega arith) in absurd (omega (arith, e))
