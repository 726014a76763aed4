use Rattle.of_memory.specs.Handles.{IsHandle}
use Rattle.test_threads.proofs.looks.call_often.Given as goal

abbrev pub invariant-loop : goal.invariant-loop
invariant-loop l = record {
  handle : IsHandle l.handle;
}
