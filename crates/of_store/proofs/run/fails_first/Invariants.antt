use Rattle.std.proofs.Common.{◌≡◌, ◌<◌, ℕ, Some, true}
use Rattle.std.specs.Prelude.{slice_get}
use Rattle.of_script.specs.declared.instr.Instr.{Instr}
use Rattle.of_store.specs.Changes.{takes_out}
use Rattle.of_store.proofs.Changes.{FailsFirstOf}
use Rattle.of_store.proofs.run.fails_first.Given as goal

-- whether something was taken out so far, and so far nothing behind that can fail
abbrev pub invariant-loop-i : goal.invariant-loop-i
invariant-loop-i l = record {
  taken : (j : ℕ) (a : Instr) → j < l.i → slice_get l.script j ≡ Some a → takes_out a ≡ true → l.has_taken ≡ true;
  first : FailsFirstOf l.script l.i;
}
