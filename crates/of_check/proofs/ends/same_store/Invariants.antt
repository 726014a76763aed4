use Rattle.std.proofs.Common.{◌≡◌, ℕ, ◌<◌}
use Rattle.of_store.specs.Store.{queue}
use Rattle.of_check.proofs.ends.same_store.Given as goal

-- the queues so far are the same
abbrev pub invariant-loop-queue : goal.invariant-loop-queue
invariant-loop-queue l = (q : ℕ) → q < l.queue → queue l.one q ≡ queue l.other q
