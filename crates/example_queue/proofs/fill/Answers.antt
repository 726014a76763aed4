use Rattle.std.proofs.Common.{ℕ, ◌<◌, subst, ◌∙◌, arith}
use Rattle.of_script.specs.declared.instr.Instr.{Instr}
use Rattle.std.specs.Prelude.{List, [], ◌∷◌}
use Rattle.of_store.specs.Store.{empty_store}
use Rattle.of_memory.specs.Joining.{HasMadeAlone}
use Rattle.example_queue.proofs.Filling.{answered, alone, holds_twelve}
use Rattle.example_queue.proofs.fill.Goals as goal

pub returns-clause-jobs : goal.returns-clause-jobs
returns-clause-jobs c =
    let m = c.in_ok-memory.memory in
    let k = c.enrol.new.self in
    let l = c.leave.new.memory in
    let h = c.in_ok-handle.handle in
    let opened = c.in_ok-memory.ensures in
    let came = c.in_ok-handle.ensures in
    let one = c.in_ok-run.ensures in
    let two = c.in_ok-run-2.ensures in
    let left = c.leave.ensures in
    let calls = alone m k l h c.run.new.self c.run-2.new.self c.six_jobs.result c.six_jobs-2.result c.in_ok-run.field-0 c.in_ok-run-2.field-0
    (λ n low. opened.none n (subst (λ (i : ℕ). n < i) opened.callers low)) opened.idle came.number (omega (arith, opened.callers)) came.still came.taken (came.made) came.others
    one.same one.made two.same two.made two.open_call left.still left.back left.made left.others c.memories_stay.ensures c.none_stays_open.ensures in
    let starts = (c.memories_stay.ensures m l (left.still ∙ came.still)).store (empty_store 32) opened.empty in
    holds_twelve c.lone_calls_are_saved.ensures l c.in_ok-close.field-0 c.in_ok-run.field-0 c.in_ok-run-2.field-0 starts c.in_ok-close.ensures.history
    (subst (λ (p : List Instr × List Instr). HasMadeAlone l 0 (answered p.0 c.in_ok-run.field-0 ∷ answered p.1 c.in_ok-run-2.field-0 ∷ [])) (λ i. (c.six_jobs.ensures i, c.six_jobs-2.ensures i)) calls)
