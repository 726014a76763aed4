use Rattle.std.proofs.Common.{◌∙◌, ap}
use Rattle.of_caller.proofs.RowStarts.{zero_rows_start, zeros_are}
use Rattle.of_caller.proofs.rows.zero_row_for.Goals as goal

pub returns-clause-start : goal.returns-clause-start
returns-clause-start c =
    let r = c.in_ok-row.row in
    let sizes = c.in_ok-row.ensures.row in
    zero_rows_start c.args.plan.now r c.plan_keeps_laws.ensures.zeros (zeros_are c.args.plan.now r (record {
      callers = sizes.0 ∙ c.shape.ensures.callers;
      cells = sizes.1 ∙ c.shape.ensures.cells;
      limit = sizes.2 ∙ c.limit.ensures.value;
      work_callers = ap (λ w. w.callers) sizes.3 ∙ c.of_plan-scripts.ensures.callers;
      work_blocks = ap (λ w. w.blocks) sizes.3 ∙ c.of_plan-scripts.ensures.blocks;
    }) c.in_ok-row.ensures.start)
