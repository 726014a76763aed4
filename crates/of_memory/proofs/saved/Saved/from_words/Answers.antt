use Rattle.std.proofs.Common.{◌∙◌, arith}
use Rattle.of_cell.specs.Cells.{durable_cells}
use Rattle.of_memory.specs.Words.{durable_count}
use Rattle.of_memory.proofs.StartWords.{start_words_long, same_counts}
use Rattle.of_memory.proofs.saved.Saved.from_words.Goals as goal

pub returns-then-count-durable_cells-clause-back : goal.returns-then-count-durable_cells-clause-back
returns-then-count-durable_cells-clause-back c w same start =
    let long = start_words_long w c.args.limit c.args.words.now start ∙ (λ i. durable_count (same.callers_are i) (same.blocks_are i)) in
    let size = c.durable_cells.ensures.value ∙ (λ i. durable_cells (c.shape_of.ensures.callers i) (c.shape_of.ensures.cells i)) in
    absurd (omega (arith, c.if-count-durable_cells.true, long, size))

pub returns-clause-back : goal.returns-clause-back
returns-clause-back c w same start = c.find.ensures.back (same_counts w _ c.args.limit c.args.words.now same start)
