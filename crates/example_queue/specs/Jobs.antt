-- Jobs in a queue: the script that takes a job, and which jobs the replies of a history give.
use Rattle.std.specs.Prelude.{◌≡◌, ℕ, ◌+◌, ◌<◌, List, [], ◌∷◌, ◌++◌, length, Some, None}
use Rattle.of_script.specs.declared.instr.Instr.{Instr}
use Rattle.of_script.specs.declared.instr.Instr.TheVariants.{Add, Sub, Push, Pop}
use Rattle.of_store.specs.Store.{Store, Reply, Answered, Aborted, queue, register}
use Rattle.of_memory.specs.History.{HistoryEntry, store_after}

-- the script that takes the first job, if a job waits, and counts it in this register
abbrev pub job_script : ℕ → List Instr
job_script register = Sub 15 1 ∷ Pop 0 ∷ Add register 1 ∷ []

-- the script takes a job for one of the four workers
abbrev pub TakesJob : List Instr → Type 0
TakesJob script = (register : ℕ) × (register < 4) × (script ≡ job_script register)

-- the script that adds six jobs, the numbers from this one on, and counts them in register 15
abbrev pub six_jobs : (first : ℕ) → List Instr
six_jobs first =
    Add 15 6 ∷ Push 0 first ∷ Push 0 (first + 1) ∷ Push 0 (first + 2) ∷ Push 0 (first + 3)
    ∷ Push 0 (first + 4) ∷ Push 0 (first + 5) ∷ []

-- the jobs that wait before the first day
abbrev pub twelve_jobs : List ℕ
twelve_jobs = 11 ∷ 12 ∷ 13 ∷ 14 ∷ 15 ∷ 16 ∷ 17 ∷ 18 ∷ 19 ∷ 20 ∷ 21 ∷ 22 ∷ []

-- the jobs that wait, in the order of the queue
abbrev pub waiting : Store → List ℕ
waiting s = queue s 0

-- the job that a reply gives to the worker, as a list of one job; an empty list if the reply gives
-- none
abbrev pub job_in : Reply → List ℕ
job_in (Answered []) = []
job_in (Answered (left ∷ [])) = []
job_in (Answered (left ∷ None ∷ vs)) = []
job_in (Answered (left ∷ Some job ∷ vs)) = job ∷ []
job_in (Aborted place cause) = []

-- the jobs that the replies of a history give, in the history's order
abbrev pub jobs_in : List HistoryEntry → List ℕ
jobs_in [] = []
jobs_in (e ∷ h) = job_in e.reply ++ jobs_in h

-- No job is lost in a serial history in which each script takes a job: the jobs that the replies
-- give, in order, followed by the jobs that wait at its end, are the jobs that waited at its
-- beginning.
abbrev pub LosesNoJob : Store → List HistoryEntry → Type 0
LosesNoJob s h = jobs_in h ++ waiting (store_after s h) ≡ waiting s

-- how many jobs the four workers have counted
abbrev pub done : Store → ℕ
done s = register s 0 + register s 1 + register s 2 + register s 3

-- register 15 says how many jobs wait
pub record CountsJobs (s : Store) : Type 0 where
  pub registers : 15 < length s.registers
  pub count : register s 15 ≡ length (waiting s)

-- if register 15 says at the beginning of the history how many jobs wait, it says so at the end
-- too; and the workers have counted each job that a reply gives
abbrev pub CountsEach : Store → List HistoryEntry → Type 0
CountsEach s h =
    CountsJobs s
    → CountsJobs (store_after s h) × (done (store_after s h) ≡ done s + length (jobs_in h))
