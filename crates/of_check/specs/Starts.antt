-- Where a report begins.
use Rattle.std.specs.Prelude.{ℕ, List}
use Rattle.of_store.specs.Store.{Store}
use Rattle.of_plan.specs.Report.{Start}
use Rattle.of_check.specs.declared.start.Start.{Start as TheStart}

-- the start with this sequence and this store, at which each caller has done as many scripts as
-- `done` says
abbrev pub start_where_done : (seq : ℕ) (done : List ℕ) (store : Store) → Start
start_where_done seq done store = record { store = store; seq = seq; finished = done }

-- a start in the form that contracts see, for a start as the code has it
abbrev pub start_of : TheStart → Start
start_of s = start_where_done s.seq s.finished.items s.store
