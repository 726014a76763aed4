use Rattle.std.proofs.Common.{sym, ap, ◌∙◌, subst}
use Rattle.of_core.specs.Starts.{IsStartRow}
use Rattle.of_caller.specs.Tables.{plan_setup, IsLawfulFor}
use Rattle.of_caller.specs.PlanRows.{start_of_row}
use Rattle.of_report.specs.Report.{report_value}
use Rattle.of_report.specs.Image.{Image, start_of_image}
use Rattle.of_lives.proofs.ImageStarts.{image_begins}
use Rattle.of_lives.proofs.Continuing.{row_at, table_at, starts_at, left, keep_all}
use Rattle.of_lives.proofs.life.continue_from.Goals as goal

pub start-requires-clause-row : goal.start-requires-clause-row
start-requires-clause-row g c =
    let p = c.args.plan.now in
    let begins = image_begins c.args.image.now p c.requires.image c.requires.fits in
    row_at p c.deref.result.now c.shape.result.callers c.shape.result.cells c.limit.result c.of_plan-work.result.callers c.of_plan-work.result.blocks c.shape.ensures.callers c.shape.ensures.cells c.limit.ensures.value c.of_plan-work.ensures.callers c.of_plan-work.ensures.blocks
    (subst (IsStartRow (plan_setup p) (IsLawfulFor p)) (sym (c.deref.ensures.value ∙ ap (λ (v : Image). v.row.words) c.image.view_is)) begins.row)

pub team-requires-clause-start : goal.team-requires-clause-start
team-requires-clause-start g c κs outlives =
    let p = c.args.plan.now in
    let i = c.args.image.now in
    let B = start_of_row c.in_ok-row.row in
    let start = table_at i p c.deref.result.now c.shape.result.callers c.shape.result.cells B c.shape.ensures.callers c.shape.ensures.cells (c.deref.ensures.value ∙ ap (λ (v : Image). v.row.words) c.image.view_is) c.in_ok-row.ensures.start in
    let starts = starts_at i p c.requires.image c.requires.fits B start in
    (start_of_image i, starts, c.requires.fits.scripts)

pub make_from-requires-clause-record : goal.make_from-requires-clause-record
make_from-requires-clause-record g c =
    let p = c.args.plan.now in
    let i = c.args.image.now in
    let B = start_of_row c.in_ok-row.row in
    let start = table_at i p c.deref.result.now c.shape.result.callers c.shape.result.cells B c.shape.ensures.callers c.shape.ensures.cells (c.deref.ensures.value ∙ ap (λ (v : Image). v.row.words) c.image.view_is) c.in_ok-row.ensures.start in
    let starts = starts_at i p c.requires.image c.requires.fits B start in
    let handed = c.in_ok-ended.ensures.handed (start_of_image i) starts in
    (handed.report, handed.reported.lawful)

pub returns-clause-team : goal.returns-clause-team
returns-clause-team g c =
    let p = c.args.plan.now in
    let i = c.args.image.now in
    let B = start_of_row c.in_ok-row.row in
    let start = table_at i p c.deref.result.now c.shape.result.callers c.shape.result.cells B c.shape.ensures.callers c.shape.ensures.cells (c.deref.ensures.value ∙ ap (λ (v : Image). v.row.words) c.image.view_is) c.in_ok-row.ensures.start in
    let starts = starts_at i p c.requires.image c.requires.fits B start in
    (left i p c.teams_are_lawful.ensures.restarts c.in_ok-ended.ended c.in_ok-ended.pass.seat.me.0 B start (c.in_ok-ended.ensures.handed (start_of_image i) starts) (report_value c.in_ok-report.report) c.in_ok-report.ensures.report).team

pub returns-clause-report : goal.returns-clause-report
returns-clause-report g c =
    let p = c.args.plan.now in
    let i = c.args.image.now in
    let B = start_of_row c.in_ok-row.row in
    let start = table_at i p c.deref.result.now c.shape.result.callers c.shape.result.cells B c.shape.ensures.callers c.shape.ensures.cells (c.deref.ensures.value ∙ ap (λ (v : Image). v.row.words) c.image.view_is) c.in_ok-row.ensures.start in
    let starts = starts_at i p c.requires.image c.requires.fits B start in
    (left i p c.teams_are_lawful.ensures.restarts c.in_ok-ended.ended c.in_ok-ended.pass.seat.me.0 B start (c.in_ok-ended.ensures.handed (start_of_image i) starts) (report_value c.in_ok-report.report) c.in_ok-report.ensures.report).report

pub returns-clause-not_again : goal.returns-clause-not_again
returns-clause-not_again g c =
    let p = c.args.plan.now in
    let i = c.args.image.now in
    let B = start_of_row c.in_ok-row.row in
    let start = table_at i p c.deref.result.now c.shape.result.callers c.shape.result.cells B c.shape.ensures.callers c.shape.ensures.cells (c.deref.ensures.value ∙ ap (λ (v : Image). v.row.words) c.image.view_is) c.in_ok-row.ensures.start in
    let starts = starts_at i p c.requires.image c.requires.fits B start in
    (left i p c.teams_are_lawful.ensures.restarts c.in_ok-ended.ended c.in_ok-ended.pass.seat.me.0 B start (c.in_ok-ended.ensures.handed (start_of_image i) starts) (report_value c.in_ok-report.report) c.in_ok-report.ensures.report).not_again

pub returns-clause-leaves : goal.returns-clause-leaves
returns-clause-leaves g c =
    let p = c.args.plan.now in
    let i = c.args.image.now in
    let B = start_of_row c.in_ok-row.row in
    let start = table_at i p c.deref.result.now c.shape.result.callers c.shape.result.cells B c.shape.ensures.callers c.shape.ensures.cells (c.deref.ensures.value ∙ ap (λ (v : Image). v.row.words) c.image.view_is) c.in_ok-row.ensures.start in
    let starts = starts_at i p c.requires.image c.requires.fits B start in
    (left i p c.teams_are_lawful.ensures.restarts c.in_ok-ended.ended c.in_ok-ended.pass.seat.me.0 B start (c.in_ok-ended.ensures.handed (start_of_image i) starts) (report_value c.in_ok-report.report) c.in_ok-report.ensures.report).leaves

pub returns-clause-allowances : goal.returns-clause-allowances
returns-clause-allowances g c =
    let p = c.args.plan.now in
    let i = c.args.image.now in
    let B = start_of_row c.in_ok-row.row in
    let start = table_at i p c.deref.result.now c.shape.result.callers c.shape.result.cells B c.shape.ensures.callers c.shape.ensures.cells (c.deref.ensures.value ∙ ap (λ (v : Image). v.row.words) c.image.view_is) c.in_ok-row.ensures.start in
    let starts = starts_at i p c.requires.image c.requires.fits B start in
    let handed = c.in_ok-ended.ensures.handed (start_of_image i) starts in
    let told = left i p c.teams_are_lawful.ensures.restarts c.in_ok-ended.ended c.in_ok-ended.pass.seat.me.0 B start handed (report_value c.in_ok-report.report) c.in_ok-report.ensures.report in
    keep_all p (start_of_image i) B c.in_ok-ended.ended handed.sight handed.team (report_value c.in_ok-report.report) told.report.lawful c.teams_are_lawful.ensures.allowances _ 0 c.args.brakes.items c.in_ok-ended.ensures.stops
