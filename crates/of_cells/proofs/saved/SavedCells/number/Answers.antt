use Rattle.std.proofs.Common.{sym, ◌∙◌}
use Rattle.of_core.specs.Starts.{start_on}
use Rattle.of_cells.proofs.Holding.{number_at}
use Rattle.of_cells.proofs.saved.SavedCells.number.Goals as goal

pub returns : goal.returns
returns g c = let d = c.args.self.now in c.word_number.ensures ∙ sym (number_at (start_on d.shape d.row.items).cells c.args.cell)
