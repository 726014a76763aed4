use Rattle.std.proofs.Common.{◌≡◌, ℕ, ◌+◌, List, length, ◌++◌, refl, sym, ap, ◌∙◌, subst, arith}
use Rattle.std.specs.Prelude.{slice_range}
use Rattle.of_cell.specs.Cells.{durable_cells, table_words}
use Rattle.of_mem.specs.Places.{base_of, cells_at}
use Rattle.of_script.specs.declared.instr.TheConstants.{MOST_INSTRS}
use Rattle.of_plan.specs.Ended.{Ended}
use Rattle.of_report.specs.Report.{report_value}
use Rattle.of_report.specs.Image.{start_of_image, durable_row}
use Rattle.of_report.specs.ImageRow.{row_in}
use Rattle.of_image.specs.declared.version.Version.TheVariants.{Two}
use Rattle.of_image.specs.ImageText.{image_text, SpellsImage}
use Rattle.of_caller.specs.InTime.{course_of}
use Rattle.of_lives.specs.Restarts.{start_from_row}
use Rattle.of_tool.proofs.Promises.{history_of, told_stops, told_allowances}
use Rattle.of_tool.proofs.continue_life.run_life.Goals as goal

pub image_print-requires-clause-size : goal.image_print-requires-clause-size
image_print-requires-clause-size g c =
    let a = sym c.plot.ensures.callers in
    let b = sym c.plot.ensures.blocks in
    let k = sym c.plot.ensures.instrs in
    ap length (c.deref.ensures.value ∙ ap (λ (e : Ended). e.words) c.ended.view_is) ∙ c.in_ok-report.ensures.report.lawful.words ∙ (λ i. table_words (a i) MOST_INSTRS (cells_at (base_of (a i) (k i)) (b i)))

pub returns : goal.returns
returns g c =
    let p = c.args.plan.now in
    let e = c.in_ok-report.field-0.ended in
    let callers = c.plot.ensures.callers in
    let blocks = c.plot.ensures.blocks in
    let D = durable_cells c.plot.result.callers (cells_at (base_of c.plot.result.callers c.plot.result.instrs) c.plot.result.blocks) in
    let r = row_in c.plot.result (slice_range c.deref.result.now D (D + D)) in
    let words : c.deref.result.now ≡ e.words = c.deref.ensures.value ∙ ap (λ (x : Ended). x.words) c.ended.view_is in
    let row : r ≡ durable_row p e = λ i. record {
      callers = callers i;
      blocks = blocks i;
      words = slice_range (words i) (durable_cells (callers i) (cells_at (base_of (callers i) (c.plot.ensures.instrs i)) (blocks i)))
          (durable_cells (callers i) (cells_at (base_of (callers i) (c.plot.ensures.instrs i)) (blocks i)) + durable_cells (callers i) (cells_at (base_of (callers i) (c.plot.ensures.instrs i)) (blocks i)));
    } in
    let told = c.in_ok-report.ensures in
    let i = c.args.image.now in
    let handed = told.team.handed in
    let run = c.reports_respect_time.ensures.teams (start_of_image i) (start_from_row p i.row.words) e handed.sight handed.team in
    let leaves = told.leaves in
    let left : c.in_ok-left.left.items ≡ image_text Two (durable_row p e) = c.in_ok-left.ensures.text ∙ ap (image_text Two) row in
    let again : SpellsImage Two (image_text Two (durable_row p e)) (durable_row p e) = subst (λ (t : List ℕ). SpellsImage Two t (durable_row p e)) left (subst (SpellsImage Two c.in_ok-left.left.items) row (c.in_ok-left.ensures.plan (omega (arith, callers, c.plot.ensures.plan.few_callers)) (omega (arith, blocks, c.plot.ensures.plan.few_blocks)))) in
    record {
      report = report_value c.in_ok-report.field-0.report;
      life = record {
        course = course_of p (start_from_row p i.row.words) run.0;
        promises = record {
          history = history_of p (start_of_image i) e (report_value c.in_ok-report.field-0.report) told.report (course_of p (start_from_row p i.row.words) run.0) (run.2 (report_value c.in_ok-report.field-0.report) told.report.lawful);
          stops = told_stops _ p e c.args.brakes.items told.stops;
          allowances = told_allowances _ p (report_value c.in_ok-report.field-0.report) c.args.brakes.items told.allowances;
        };
        goes_on = record {
          fits = c.requires.fits;
          not_again = told.not_again;
          next = leaves.0;
          leaves = leaves.1;
          reads = record { raw = durable_row p e; spelled = again; restored = leaves.1.restored };
        };
        real = record { schedule = run.0; leaves = run.1; course_is = refl; reports = told.report };
        table = told.team;
      };
      text_is = c.in_ok-append.ensures.items ∙ (λ i. c.in_ok-text.ensures i ++ left i);
    }
