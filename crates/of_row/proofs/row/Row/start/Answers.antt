use Rattle.std.proofs.Common.{ℕ, ap, ◌∙◌}
use Rattle.of_cell.specs.Cells.{table_words}
use Rattle.of_core.specs.Starts.{first_words, start_on}
use Rattle.of_row.proofs.row.Row.start.Goals as goal

pub first_words-requires-clause-owner : goal.first_words-requires-clause-owner
first_words-requires-clause-owner g c = c.requires.row.may_start.start.owner_in

pub open-requires-clause-words : goal.open-requires-clause-words
open-requires-clause-words g c =
    let a = c.args in
    record {
      start = start_on a.shape a.durable.now;
      may_start = c.requires.row.may_start;
      words = c.in_ok-words.ensures ∙ ap (λ (k : ℕ). first_words a.shape.callers a.shape.cells (start_on a.shape a.durable.now) (table_words a.shape.callers k a.shape.cells)) c.requires.instrs;
    }

pub returns-clause-start : goal.returns-clause-start
returns-clause-start g c =
    let a = c.args in
    c.in_ok-row.ensures.start (start_on a.shape a.durable.now) c.requires.row.may_start (c.in_ok-words.ensures ∙ ap (λ (k : ℕ). first_words a.shape.callers a.shape.cells (start_on a.shape a.durable.now) (table_words a.shape.callers k a.shape.cells)) c.requires.instrs)
