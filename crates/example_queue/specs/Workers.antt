-- A memory in which workers take jobs, and what is saved of it.
use Rattle.std.specs.Prelude.{◌≡◌, ℕ, ◌<◌, List, ◌++◌, length}
use Rattle.std.specs.List.{All}
use Rattle.of_script.specs.declared.instr.Instr.{Instr}
use Rattle.of_store.specs.Store.{Store}
use Rattle.of_memory.specs.declared.memory.Memory.{Memory}
use Rattle.of_memory.specs.declared.handle.Handle.{Handle}
use Rattle.of_memory.specs.declared.saved.Saved.{Saved}
use Rattle.of_memory.specs.History.{HistoryEntry, Made, IsSerial, store_after}
use Rattle.of_memory.specs.Handles.{HasMade, HasOpen}
use Rattle.of_memory.specs.Memories.{StartsWith, HasMadeOf, HasOpenOf, callers_of}
use Rattle.of_memory.specs.Saving.{SavedHolds}
use Rattle.example_queue.specs.Jobs.{TakesJob, twelve_jobs, waiting, jobs_in, done, LosesNoJob, CountsJobs, CountsEach}

-- A serial history leads from the store s to the one that is saved, and no job is lost in it
-- (`LosesNoJob`). If register 15 said at its beginning how many jobs wait, the workers have counted
-- each job that was given (`CountsEach`).
pub record LeadsWithoutLoss (s : Store) (d : Saved) (h : List HistoryEntry) : Type 0 where
  pub serial : IsSerial s h
  pub ends : SavedHolds d (store_after s h)
  pub jobs : LosesNoJob s h
  pub counts : CountsEach s h

-- whatever store the memory was opened with, some history leads without loss from this store to
-- what is saved
abbrev pub IsWorkedOff : Memory → Saved → Type 0
IsWorkedOff m d = (s : Store) → StartsWith m s → (h : List HistoryEntry) × LeadsWithoutLoss s d h

-- whatever store was saved before, some history leads without loss from this store to what is saved
-- now
abbrev pub IsWorkedOffLater : (before now : Saved) → Type 0
IsWorkedOffLater c d =
    (s : Store) → SavedHolds c s → (h : List HistoryEntry) × LeadsWithoutLoss s d h

-- the saved store holds the twelve jobs; all of them wait, and none is done
pub record HoldsTwelveJobs (d : Saved) : Type 0 where
  pub store : Store
  pub holds : SavedHolds d store
  pub jobs : waiting store ≡ twelve_jobs
  pub counts : CountsJobs store
  pub none_done : done store ≡ 0

-- A serial history leads from a store in which the twelve jobs wait to the store that is saved. The
-- jobs that its replies give, in order, followed by those that still wait, are the twelve. The
-- workers have counted each job that was given, and register 15 says how many jobs wait.
pub record LosesNoneOfTwelve (d : Saved) : Type 0 where
  pub first : Store
  pub history : List HistoryEntry
  pub serial : IsSerial first history
  pub ends : SavedHolds d (store_after first history)
  pub jobs : jobs_in history ++ waiting (store_after first history) ≡ twelve_jobs
  pub counts : CountsJobs (store_after first history)
  pub done : done (store_after first history) ≡ length (jobs_in history)

-- ---- the calls of workers

-- each of these ended calls takes a job
abbrev pub AllTake : List Made → Type 0
AllTake ms = All (λ (m : Made). TakesJob m.script) ms

-- the handle has made only calls that take a job, and its open call, if it has one, takes a job too
pub record HasTaken (h : Handle) : Type 0 where
  pub made : List Made
  pub has : HasMade h made
  pub all : AllTake made
  pub open_call : (script : List Instr) → HasOpen h script → TakesJob script

-- if the handle had made only calls that take a job before, this is so now
abbrev pub OnlyTakes : (before now : Handle) → Type 0
OnlyTakes h k = HasTaken h → HasTaken k

-- no handle of number n is out, and number n has made only calls that take a job, the open call
-- included
pub record HasTakenOf (m : Memory) (n : ℕ) : Type 0 where
  pub made : List Made
  pub has : HasMadeOf m n made
  pub all : AllTake made
  pub open_call : (script : List Instr) → HasOpenOf m n script → TakesJob script

-- each number of the memory has made only calls that take a job (`HasTakenOf`)
abbrev pub IsForWorkers : Memory → Type 0
IsForWorkers m = (n : ℕ) → n < callers_of m → HasTakenOf m n
