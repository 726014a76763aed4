use Rattle.std.proofs.Common.{◌≡◌, ◌<◌, ℕ, length, drop, get_or, Global}
use Rattle.std.specs.declared.vec.Vec.{Vec}
use Rattle.of_cells.specs.Saving.{saved_ticket}
use Rattle.example_accounts.specs.declared.day.Log.{Log}
use Rattle.example_accounts.specs.declared.transfer.Transfer.{Transfer}
use Rattle.example_accounts.proofs.day.left.Given as goal

abbrev pub invariant-loop-number : goal.invariant-loop-number
invariant-loop-number l = record {
  size : length l.jobs.items ≡ l.number;
  each : (n : ℕ) (v : Vec Transfer Global) (d : Log) → n < l.number
      → (get_or l.jobs.items n v).items ≡ drop (saved_ticket l.evening.saved n) (get_or l.evening.logs.items n d).job.items;
}
