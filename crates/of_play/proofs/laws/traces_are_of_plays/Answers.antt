use Rattle.of_play.proofs.TraceLaws.{all_shown, lines_are, ends_as_play}
use Rattle.of_play.proofs.laws.traces_are_of_plays.Goals as goal

pub returns-clause-shown : goal.returns-clause-shown
returns-clause-shown c = all_shown

pub returns-clause-lines : goal.returns-clause-lines
returns-clause-lines c = lines_are

pub returns-clause-end : goal.returns-clause-end
returns-clause-end c = ends_as_play
