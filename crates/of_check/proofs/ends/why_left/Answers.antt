use Rattle.std.proofs.Common.{ap, sym, ◌∙◌}
use Rattle.of_report.specs.Image.{Image}
use Rattle.of_report.specs.Report.{report_value}
use Rattle.of_check.specs.Ends.{HasSizes}
use Rattle.of_check.proofs.Replies.{calls_left}
use Rattle.of_check.proofs.ends.why_left.Goals as goal

pub returns-in-Some : goal.returns-in-Some
returns-in-Some c s same =
    let sizes : HasSizes c.args.plan.now (report_value c.args.report.now) c.args.image.now = record {
      callers = ap (λ (i : Image). i.row.callers) (sym c.image.view_is) ∙ c.if-image-callers.false ∙ c.callers.ensures.value;
      blocks = ap (λ (i : Image). i.row.blocks) (sym c.image.view_is) ∙ c.if-image-blocks.false ∙ c.blocks-2.ensures.value;
      seq = ap (λ (i : Image). i.seq) (sym c.image.view_is) ∙ c.if-image-report.false;
    } in
    calls_left c.args.plan.now s (report_value c.args.report.now) c.args.image.now c.in-Some.rule sizes (c.in-Some.ensures s same)

pub returns-then-same_store : goal.returns-then-same_store
returns-then-same_store c s same =
    let sizes : HasSizes c.args.plan.now (report_value c.args.report.now) c.args.image.now = record {
      callers = ap (λ (i : Image). i.row.callers) (sym c.image.view_is) ∙ c.if-image-callers.false ∙ c.callers.ensures.value;
      blocks = ap (λ (i : Image). i.row.blocks) (sym c.image.view_is) ∙ c.if-image-blocks.false ∙ c.blocks-2.ensures.value;
      seq = ap (λ (i : Image). i.seq) (sym c.image.view_is) ∙ c.if-image-report.false;
    } in
    record { callers = sizes.callers; blocks = sizes.blocks; seq = sizes.seq; last_calls = c.in-None.ensures s same; store = ap (λ (i : Image). i.store) (sym c.image.view_is) ∙ c.same_store.ensures.0 c.if-same_store.true }

pub returns-else-same_store : goal.returns-else-same_store
returns-else-same_store c s same =
    let sizes : HasSizes c.args.plan.now (report_value c.args.report.now) c.args.image.now = record {
      callers = ap (λ (i : Image). i.row.callers) (sym c.image.view_is) ∙ c.if-image-callers.false ∙ c.callers.ensures.value;
      blocks = ap (λ (i : Image). i.row.blocks) (sym c.image.view_is) ∙ c.if-image-blocks.false ∙ c.blocks-2.ensures.value;
      seq = ap (λ (i : Image). i.seq) (sym c.image.view_is) ∙ c.if-image-report.false;
    } in
    (sizes, c.in-None.ensures s same, λ store. absurd (cc (c.same_store.ensures.1 (ap (λ (i : Image). i.store) c.image.view_is ∙ store), c.if-same_store.false)))
