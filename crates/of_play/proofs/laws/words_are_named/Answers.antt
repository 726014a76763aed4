use Rattle.of_play.proofs.WordNames.{cell_uses_named, cells_named, words_named}
use Rattle.of_play.proofs.laws.words_are_named.Goals as goal

pub returns-clause-uses : goal.returns-clause-uses
returns-clause-uses c = cell_uses_named

pub returns-clause-cells : goal.returns-clause-cells
returns-clause-cells c = cells_named

pub returns-clause-words : goal.returns-clause-words
returns-clause-words c = words_named
