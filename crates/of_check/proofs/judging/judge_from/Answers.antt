use Rattle.std.proofs.Common.{List, ℕ, ◌+◌, ap, length, take, subst, ◌∙◌, arith}
use Rattle.of_report.specs.Report.{report_value}
use Rattle.of_check.specs.declared.cause.Cause.TheVariants.{Caller}
use Rattle.of_check.specs.Starts.{start_of}
use Rattle.of_check.specs.Claims.{end_claims_of_text}
use Rattle.of_check.specs.Causes.{DifferFirst, ComesFirst}
use Rattle.of_check.proofs.Verdicts.{counts_wide, run_of, ends_moved, first_moved, judged_entry, judged_caller, judged_line, judged_legal}
use Rattle.of_check.proofs.judging.judge_from.Goals as goal

pub first_end-ended-requires-clause-counts : goal.first_end-ended-requires-clause-counts
first_end-ended-requires-clause-counts c =
    ap length c.deref-4.ensures.value ∙ counts_wide c.args.plan.now (start_of c.args.start) c.requires (take c.in_ok-replay.field-0.count c.deref-2.result.now) c.in_ok-replay.field-0.replay c.in_ok-replay.ensures.ran

pub report-requires-clause-counts : goal.report-requires-clause-counts
report-requires-clause-counts c = counts_wide c.args.plan.now (start_of c.args.start) c.requires (take c.in_ok-replay.field-0.count c.deref-2.result.now) c.in_ok-replay.field-0.replay c.in_ok-replay.ensures.ran

pub overflow_add-above : goal.overflow_add-above
overflow_add-above c = omega (arith, c.in_ok-replay.ensures.few, ap length c.deref-2.ensures.value, c.in_ok-claims.claims.calls.small)

pub overflow_add-above-in-Some-ended : goal.overflow_add-above-in-Some-ended
overflow_add-above-in-Some-ended c = omega (arith, c.in_ok-replay.ensures.few, ap length c.deref-2.ensures.value, c.in_ok-claims.claims.calls.small, c.from.ensures, c.in-Some-ended.ensures.there, c.in_range.ensures.few_callers)

pub returns-in-Some : goal.returns-in-Some
returns-in-Some c =
    let p = c.args.plan.now in
    let s = start_of c.args.start in
    let text = c.args.text.now in
    let e = c.in_ok-replay.field-0 in
    let run = run_of p s text e c.deref-2.result.now c.deref-6.result.now c.deref-7.result.now (report_value c.in_ok-report.report) c.in_ok-wanted.wanted.items (c.deref-2.ensures.value ∙ c.in_ok-claims.ensures.calls) c.in_ok-replay.ensures (c.deref-6.ensures.value ∙ c.in_ok-done.ensures.items ∙ c.deref.ensures.value) (c.deref-7.ensures.value ∙ c.in_ok-claims.ensures.ends) c.in_ok-report.ensures c.in_ok-wanted.ensures in
    judged_entry p c.in_range.ensures s c.requires text e (report_value c.in_ok-report.report) c.in_ok-wanted.wanted run c.in-Some.rule c.in-Some.is c.first_of.result c.first_of.ensures

pub returns-in-Some-ended : goal.returns-in-Some-ended
returns-in-Some-ended c =
    let p = c.args.plan.now in
    let s = start_of c.args.start in
    let text = c.args.text.now in
    let e = c.in_ok-replay.field-0 in
    let run = run_of p s text e c.deref-2.result.now c.deref-6.result.now c.deref-7.result.now (report_value c.in_ok-report.report) c.in_ok-wanted.wanted.items (c.deref-2.ensures.value ∙ c.in_ok-claims.ensures.calls) c.in_ok-replay.ensures (c.deref-6.ensures.value ∙ c.in_ok-done.ensures.items ∙ c.deref.ensures.value) (c.deref-7.ensures.value ∙ c.in_ok-claims.ensures.ends) c.in_ok-report.ensures c.in_ok-wanted.ensures in
    judged_caller p c.in_range.ensures s c.requires text e (report_value c.in_ok-report.report) c.in_ok-wanted.wanted run c.in_default.is c.in-Some-ended.caller c.in-Some-ended.rule
    (first_moved p e.replay.last.seq c.deref-3.result.now s.finished c.deref-4.result.now e.replay.counts.items c.deref-5.result.now (end_claims_of_text text) c.in-Some-ended.caller c.in-Some-ended.rule (c.deref-3.ensures.value ∙ c.in_ok-done.ensures.items ∙ c.deref.ensures.value) c.deref-4.ensures.value (c.deref-5.ensures.value ∙ c.in_ok-claims.ensures.ends) c.in-Some-ended.ensures)
    c.first_of-in-Some-ended.result
    (subst (λ (n : ℕ). ComesFirst text c.in_ok-wanted.wanted (e.count + 1 + n) (Caller e.count c.in-Some-ended.caller c.in-Some-ended.rule) c.first_of-in-Some-ended.result) c.from.ensures c.first_of-in-Some-ended.ensures)

pub returns-in-None : goal.returns-in-None
returns-in-None c =
    let p = c.args.plan.now in
    let s = start_of c.args.start in
    let text = c.args.text.now in
    let e = c.in_ok-replay.field-0 in
    let run = run_of p s text e c.deref-2.result.now c.deref-6.result.now c.deref-7.result.now (report_value c.in_ok-report.report) c.in_ok-wanted.wanted.items (c.deref-2.ensures.value ∙ c.in_ok-claims.ensures.calls) c.in_ok-replay.ensures (c.deref-6.ensures.value ∙ c.in_ok-done.ensures.items ∙ c.deref.ensures.value) (c.deref-7.ensures.value ∙ c.in_ok-claims.ensures.ends) c.in_ok-report.ensures c.in_ok-wanted.ensures in
    judged_legal p c.in_range.ensures s c.requires text e (report_value c.in_ok-report.report) c.in_ok-wanted.wanted run c.in_default.is
    (ends_moved p e.replay.last.seq c.deref-3.result.now s.finished c.deref-4.result.now e.replay.counts.items c.deref-5.result.now (end_claims_of_text text) (c.deref-3.ensures.value ∙ c.in_ok-done.ensures.items ∙ c.deref.ensures.value) c.deref-4.ensures.value (c.deref-5.ensures.value ∙ c.in_ok-claims.ensures.ends) c.in_default-ended.ensures)
    (c.in-None.ensures ∙ c.as_slice.ensures.value) c.has_32_bits.ensures

pub returns : goal.returns
returns c =
    let p = c.args.plan.now in
    let s = start_of c.args.start in
    let text = c.args.text.now in
    let e = c.in_ok-replay.field-0 in
    let run = run_of p s text e c.deref-2.result.now c.deref-6.result.now c.deref-7.result.now (report_value c.in_ok-report.report) c.in_ok-wanted.wanted.items (c.deref-2.ensures.value ∙ c.in_ok-claims.ensures.calls) c.in_ok-replay.ensures (c.deref-6.ensures.value ∙ c.in_ok-done.ensures.items ∙ c.deref.ensures.value) (c.deref-7.ensures.value ∙ c.in_ok-claims.ensures.ends) c.in_ok-report.ensures c.in_ok-wanted.ensures in
    judged_line p c.in_range.ensures s c.requires text e (report_value c.in_ok-report.report) c.in_ok-wanted.wanted run c.in_default.is c.in-Some-first_difference.above
    (subst (λ (t : List ℕ). DifferFirst text t c.in-Some-first_difference.above) c.as_slice.ensures.value c.in-Some-first_difference.ensures)
