use Rattle.std.proofs.Common.{◌≡◌, ℕ, ◌+◌, List, length, Ok, Err, sym, ap, subst, ◌∙◌, arith}
use Rattle.std.specs.Prelude.{Result, IfOk, slice_range}
use Rattle.of_cell.specs.Cells.{durable_cells, table_words}
use Rattle.of_mem.specs.Places.{base_of, cells_at}
use Rattle.of_mem.specs.ProgramWork.{memory_of, meaning_of}
use Rattle.of_script.specs.declared.instr.TheConstants.{MOST_INSTRS}
use Rattle.of_eval.specs.ScriptPrograms.{script_program}
use Rattle.of_eval.specs.Scripts.{StandsForSome, is_success, script_reads}
use Rattle.of_plan.specs.Plan.{data_cells}
use Rattle.of_plan.specs.Ended.{Ended}
use Rattle.of_plan.specs.Report.{Report, empty_start}
use Rattle.of_eval.specs.Record.{IsLawfulRecord}
use Rattle.of_core.specs.Laws.{RecoveredRowsMayStart}
use Rattle.of_core.specs.Table.{setup_of}
use Rattle.of_report.specs.ImageRow.{row_in}
use Rattle.of_image.specs.declared.version.Version.TheVariants.{Two}
use Rattle.of_image.specs.ImageText.{image_text, SpellsImage}
use Rattle.of_image.specs.RunImage.{durable_row}
use Rattle.of_play.specs.Played.{IsPlayedReport}
use Rattle.of_play.proofs.PlaysMoments.{IsPlayable, playable}
use Rattle.of_play.proofs.PlayedReports.{has_report, lawful_report}
use Rattle.of_tool.proofs.PlayedImages.{played_image}
use Rattle.of_tool.proofs.images.play_image.Goals as goal

-- two facts of what is answered give a third
both_ok : {T E : Type 0} (r : Result T E) (P Q R : T → Type 0) → ((x : T) → P x → Q x → R x) → IfOk r P → IfOk r Q → IfOk r R
both_ok (Ok x) P Q R f h k = f x h k
both_ok (Err e) P Q R f h k = tt

-- the law of starts at a table for scripts, of so many callers and blocks
abbrev RestartsAt : (callers blocks limit : ℕ) → Type 0
RestartsAt c b l =
    RecoveredRowsMayStart (setup_of c (data_cells c b) l (meaning_of is_success script_reads (script_program (base_of c MOST_INSTRS) b)))
    (λ (xs : List ℕ). StandsForSome (base_of c MOST_INSTRS) b (memory_of xs))

module _ (c : goal.After-deref) where
  play : IsPlayable c.args.plan.now
  play = playable c.args.plan.now c.play.ensures.plan c.plan_keeps_laws.ensures.laws c.plan_keeps_laws.ensures.moments c.plan_keeps_laws.ensures.zeros

  -- what the schedule leaves has a report, as `play` prints it
  report : (r : Report) × IsLawfulRecord c.args.plan.now (empty_start c.args.plan.now) c.in_ok-ended.ended r
  report = has_report c.args.plan.now play c.runs_are_lawful.ensures.lawful c.runs_are_lawful.ensures.reported c.runs_are_lawful.ensures.allowances c.reports_respect_time.ensures.schedules c.in_ok-ended.ended c.in_ok-ended.ensures.played

  played : IsPlayedReport c.args.plan.now report.0
  played = lawful_report c.args.plan.now play c.runs_are_lawful.ensures.lawful c.runs_are_lawful.ensures.reported c.runs_are_lawful.ensures.allowances c.reports_respect_time.ensures.schedules c.in_ok-ended.ended c.in_ok-ended.ensures.played report.0 report.1

  restarts : RestartsAt c.args.plan.now.callers c.args.plan.now.blocks c.args.plan.now.limit
  restarts =
      subst (λ (k : ℕ). RestartsAt c.args.plan.now.callers c.args.plan.now.blocks k) c.limit.ensures.value
      (subst (λ (k : ℕ). RestartsAt c.args.plan.now.callers k c.limit.result) c.of_plan-scripts.ensures.blocks
      (subst (λ (k : ℕ). RestartsAt k c.of_plan-scripts.result.blocks c.limit.result) c.of_plan-scripts.ensures.callers c.starts.ensures.restarts))

pub image_print-requires-clause-size : goal.image_print-requires-clause-size
image_print-requires-clause-size c =
    let a = sym c.plot.ensures.callers in
    let b = sym c.plot.ensures.blocks in
    let k = sym c.plot.ensures.instrs in
    ap length (c.deref.ensures.value ∙ ap (λ (e : Ended). e.words) c.ended.view_is) ∙ (report c).1.words ∙ (λ i. table_words (a i) MOST_INSTRS (cells_at (base_of (a i) (k i)) (b i)))

pub returns : goal.returns
returns c =
    let p = c.args.plan.now in
    let e = c.in_ok-ended.ended in
    let callers = c.plot.ensures.callers in
    let blocks = c.plot.ensures.blocks in
    let D = durable_cells c.plot.result.callers (cells_at (base_of c.plot.result.callers c.plot.result.instrs) c.plot.result.blocks) in
    let r = row_in c.plot.result (slice_range c.deref.result.now D (D + D)) in
    let left : c.deref.result.now ≡ e.words = c.deref.ensures.value ∙ ap (λ (x : Ended). x.words) c.ended.view_is in
    let row : r ≡ durable_row p e = λ i. record {
      callers = callers i;
      blocks = blocks i;
      words = slice_range (left i) (durable_cells (callers i) (cells_at (base_of (callers i) (c.plot.ensures.instrs i)) (blocks i)))
          (durable_cells (callers i) (cells_at (base_of (callers i) (c.plot.ensures.instrs i)) (blocks i)) + durable_cells (callers i) (cells_at (base_of (callers i) (c.plot.ensures.instrs i)) (blocks i)));
    } in
    let before = c.before.before.before.before in
    both_ok c.image_print.result (λ text. text.items ≡ image_text Two r) (λ text. SpellsImage Two text.items r) _
    (λ text is again. played_image p (play before) (restarts before) c.records_have_images.ensures c.lives_restart.ensures c.one_image.ensures e c.in_ok-ended.ensures.played (report before).0 (played before) text.items (is ∙ ap (image_text Two) row) (subst (SpellsImage Two text.items) row again))
    c.image_print.ensures.text (c.image_print.ensures.plan (omega (arith, callers, c.plot.ensures.plan.few_callers)) (omega (arith, blocks, c.plot.ensures.plan.few_blocks)))
