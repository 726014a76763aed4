use Rattle.of_memory.specs.Memories.{IsMemory}
use Rattle.test_threads.proofs.looks.look_often.Given as goal

abbrev pub invariant-loop : goal.invariant-loop
invariant-loop l = record {
  memory : IsMemory l.memory;
}
