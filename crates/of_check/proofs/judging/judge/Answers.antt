use Rattle.std.proofs.Common.{◌≡◌, replicate, ◌∙◌, subst}
use Rattle.std.proofs.lemmas.Result.{IfOk-weaker}
use Rattle.of_store.specs.Store.{empty_store}
use Rattle.of_plan.specs.Report.{Start, empty_start}
use Rattle.of_check.specs.Starts.{start_where_done, start_of}
use Rattle.of_check.specs.Causes.{IsJudgement}
use Rattle.of_check.proofs.Verdicts.{judged_empty}
use Rattle.of_check.proofs.judging.judge.Goals as goal

pub returns : goal.returns
returns c =
    let p = c.args.plan.now in
    let text = c.args.text.now in
    let start : start_of c.in_ok-start.start ≡ empty_start p = c.in_ok-start.ensures ∙ (λ i. start_where_done 0 (replicate (c.callers.ensures.value i) 0) (empty_store (c.blocks-2.ensures.value i))) in
    IfOk-weaker c.judge_from.result _ _ (λ j h. judged_empty p c.callers.ensures.plan text j (subst (λ (s : Start). IsJudgement p s text j) start h)) c.judge_from.ensures
