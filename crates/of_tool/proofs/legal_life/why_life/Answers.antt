use Rattle.std.proofs.Common.{◌≡◌, length, sym, ap, ◌∙◌}
use Rattle.of_plan.specs.Report.{Start}
use Rattle.of_report.specs.Image.{start_of_image}
use Rattle.of_report.specs.Report.{report_value}
use Rattle.of_check.specs.Starts.{start_of as start_at}
use Rattle.of_tool.proofs.Lives.{done_long, no_report, no_fault, no_life, told_cause, told_report, is_life, is_elsewhere}
use Rattle.of_tool.proofs.legal_life.why_life.Goals as goal

pub judge_from-requires : goal.judge_from-requires
judge_from-requires c = ap (λ (s : Start). length s.finished) c.in_ok-start.ensures ∙ done_long c.args.image c.args.plan.now c.requires.fits

pub why_left-requires-clause-done : goal.why_left-requires-clause-done
why_left-requires-clause-done c = ap length (c.deref.ensures.value ∙ c.in_ok-done.ensures) ∙ done_long c.args.image c.args.plan.now c.requires.fits

-- there is no report, and this is why
pub returns-in-Illegal : goal.returns-in-Illegal
returns-in-Illegal c =
    let judged = rw c.in-Illegal.is at c.in_ok-report.ensures in
    (told_cause c.args.image c.args.plan.now c.args.told.now c.args.left.now (start_at c.in_ok-start.start) c.in_ok-start.ensures c.in-Illegal.cause judged.0, no_report c.args.image c.args.plan.now c.args.told.now c.args.left.now (start_at c.in_ok-start.start) c.in_ok-start.ensures judged.1)

-- the text behind it is none of an image
pub returns-in-Fault : goal.returns-in-Fault
returns-in-Fault c =
    let fault = rw c.in-Fault.is at c.in_ok-next.ensures.read in (
      (told_report c.args.image c.args.plan.now c.args.told.now c.args.left.now (start_at c.in_ok-start.start) c.in_ok-start.ensures (report_value c.in-Legal.report) (rw c.in-Legal.is at c.in_ok-report.ensures), fault),
      λ life. no_fault c.args.image c.args.plan.now c.args.told.now c.args.left.now life c.unlawful_have_none.ensures.none _ fault,
    )

-- both are there, and the report ends in the image or elsewhere
pub returns-in-None : goal.returns-in-None
returns-in-None c =
    let i = c.args.image in
    let done : (start_of_image i).finished ≡ c.deref.result.now = sym (c.deref.ensures.value ∙ c.in_ok-done.ensures) in
    is_life i c.args.plan.now c.args.told.now c.args.left.now (start_at c.in_ok-start.start) c.in_ok-start.ensures
    (report_value c.in-Legal.report) (rw c.in-Legal.is at c.in_ok-report.ensures) c.in-Image.next (rw c.in-Image.is at c.in_ok-next.ensures.read) (c.in-None.ensures (start_of_image i) done)

pub returns : goal.returns
returns c =
    let i = c.args.image in
    let done : (start_of_image i).finished ≡ c.deref.result.now = sym (c.deref.ensures.value ∙ c.in_ok-done.ensures) in
    let report = rw c.in-Legal.is at c.in_ok-report.ensures in
    let left = rw c.in-Image.is at c.in_ok-next.ensures.read in
    let breaks = c.in-Some.ensures (start_of_image i) done in (
      is_elsewhere c.args.image c.args.plan.now c.args.told.now c.args.left.now (start_at c.in_ok-start.start) c.in_ok-start.ensures (report_value c.in-Legal.report) report c.in-Image.next left c.in-Some.rule breaks,
      no_life c.args.image c.args.plan.now c.args.told.now c.args.left.now (start_at c.in_ok-start.start) c.in_ok-start.ensures c.one_report.ensures c.in_range.ensures c.requires.fits (report_value c.in-Legal.report) report c.in-Image.next left c.in-Some.rule breaks,
    )
