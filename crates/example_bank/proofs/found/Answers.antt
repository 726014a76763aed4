use Rattle.std.proofs.Common.{ℕ, ◌<◌, subst, ◌∙◌, arith}
use Rattle.std.specs.Prelude.{List, [], ◌∷◌}
use Rattle.of_script.specs.declared.instr.Instr.{Instr}
use Rattle.of_store.specs.Store.{empty_store}
use Rattle.of_memory.specs.Joining.{HasMadeAlone}
use Rattle.example_bank.proofs.Founded.{answered, alone, is_founded}
use Rattle.example_bank.proofs.found.Goals as goal

pub returns-clause-money : goal.returns-clause-money
returns-clause-money c =
    let m = c.in_ok-memory.memory in
    let k = c.enrol.new.self in
    let l = c.leave.new.memory in
    let h = c.in_ok-founder.founder in
    let a = c.in_ok-run.field-0 in
    let opened = c.in_ok-memory.ensures in
    let came = c.in_ok-founder.ensures in
    let one = c.in_ok-run.ensures in
    let left = c.leave.ensures in
    let calls = alone m k l h c.run.new.self c.founding.result a
    (λ n low. opened.none n (subst (λ (i : ℕ). n < i) opened.callers low)) opened.idle came.number (omega (arith, opened.callers)) came.still came.taken (came.made) came.others
    one.same one.made one.open_call left.still left.back left.made left.others c.memories_stay.ensures c.none_stays_open.ensures in
    let starts = (c.memories_stay.ensures m l (left.still ∙ came.still)).store (empty_store 0) opened.empty in
    is_founded c.lone_calls_are_saved.ensures l c.in_ok-close.field-0 a starts c.in_ok-close.ensures.history
    (subst (λ (s : List Instr). HasMadeAlone l 0 (answered s a ∷ [])) c.founding.ensures calls)
