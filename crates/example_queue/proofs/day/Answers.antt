use Rattle.std.proofs.Common.{ℕ, ◌<◌, subst}
use Rattle.std.proofs.lemmas.Result.{IfOk-weaker}
use Rattle.example_queue.specs.Workers.{IsWorkedOff, IsWorkedOffLater}
use Rattle.example_queue.proofs.Workers.{none_yet}
use Rattle.example_queue.proofs.day.Goals as goal

pub work-requires-clause-queue : goal.work-requires-clause-queue
work-requires-clause-queue g c κs within =
    let opened = c.in_ok-memory.ensures in
    none_yet c.in_ok-memory.memory (λ n low. opened.none n (subst (λ (k : ℕ). n < k) opened.callers low)) opened.idle

pub returns-clause-works : goal.returns-clause-works
returns-clause-works g c =
    IfOk-weaker c.work.result (IsWorkedOff c.in_ok-memory.memory) (IsWorkedOffLater c.args.saved.now) (λ d off s holds. off s (c.in_ok-memory.ensures.goes_on s holds)) c.work.ensures.works
