use Rattle.std.proofs.Common.{List, ℕ, ◌++◌, ◌∙◌, ap}
use Rattle.std.specs.Prelude.{string_bytes}
use Rattle.std.proofs.lemmas.Result.{on_ok_weaker}
use Rattle.of_cell.specs.Cells.{durable_place}
use Rattle.of_play.proofs.PlaysMoments.{playable}
use Rattle.of_play.proofs.TraceTurns.{evict_read}
use Rattle.of_play.proofs.schedule_run.ScheduleRun.trace_evict.Goals as goal

pub returns-clause-line : goal.returns-clause-line
returns-clause-line c =
    let p = c.args.plan.now in
    let plan = playable p c.requires.playing.plan c.plan_keeps_laws.ensures.laws c.plan_keeps_laws.ensures.moments c.plan_keeps_laws.ensures.zeros in
    let word = c.durable_word-word.ensures.value ∙ (λ i. durable_place (c.shape.ensures.callers i) (c.shape.ensures.cells i) c.args.cell) in
    on_ok_weaker c.put_evict.result
    (λ e es st. e ∙ ap (λ (xs : List ℕ). string_bytes c.args.text.now ++ xs) (evict_read p plan c.args.cell c.args.self.now c.item.new.self c.in_ok-item.ensures es st c.args.number _ _ _ word c.word-found.ensures c.word-left.ensures))
    c.put_evict.ensures
