-- Scripts that take jobs lose none.
use Rattle.std.proofs.Common.{◌≡◌, ℕ, ◌+◌, ◌-◌, Bool, true, false, List, [], ◌∷◌, ◌++◌, get_or, set, Option, Some, None, Ok, Err, if◌then◌else◌, nat_lt, refl, sym, ap, subst, ◌∙◌, append_assoc}
use Rattle.std.specs.List.{All}
use Rattle.std.proofs.lemmas.List.Elements.{All-head, All-tail}
use Rattle.of_script.specs.declared.instr.Instr.{Instr}
use Rattle.of_script.specs.declared.instr.Cause.TheVariants.{Overflow, Short}
use Rattle.of_script.specs.Language.{greatest}
use Rattle.of_store.specs.Store.{Store, Reply, Answered, ScriptOutcome, run, run_result, register, with_register, with_queue, pop_effect, then_outcome, with_answer_first}
use Rattle.of_memory.specs.History.{HistoryEntry, IsSerial, store_after}
use Rattle.example_queue.specs.Jobs.{TakesJob, waiting, job_in, jobs_in, LosesNoJob}

-- the job that a run gives, and those that wait after it
abbrev jobs_of : Store × Reply → List ℕ
jobs_of r = job_in r.1 ++ waiting r.0

-- the count of a job, behind these answers
abbrev pub counted : (over : Bool) → Store → (register : ℕ) → (left job : Option ℕ) → ScriptOutcome
counted over u w left job =
    with_answer_first left (with_answer_first job (then_outcome (if over then Err Overflow else Ok (with_register u w (register u w + 1), Some (register u w + 1))) (λ (v : Store). Ok (v, []))))

count_loses_none : (s u : Store) (w : ℕ) (left job : Option ℕ) (over : Bool) → job_in (Answered (left ∷ job ∷ Some (register u w + 1) ∷ [])) ++ waiting u ≡ waiting s
    → jobs_of (run_result s (counted over u w left job)) ≡ waiting s
count_loses_none s u w left job true e = refl
count_loses_none s u w left job false e = e

-- the front of the queue is taken
pub front_leaves : (qs : List (List ℕ)) (front : ℕ) (others : List ℕ) → get_or qs 0 [] ≡ front ∷ others → get_or (set qs 0 others) 0 [] ≡ others
front_leaves [] front others e = absurd cc
front_leaves (q ∷ qs) front others e = refl

abbrev pub popped : Store → (register : ℕ) → (left : Option ℕ) → List ℕ → ScriptOutcome
popped t w left items =
    with_answer_first left (then_outcome (pop_effect t 0 items) (λ (u : Store). then_outcome (if nat_lt greatest (register u w + 1) then Err Overflow else Ok (with_register u w (register u w + 1), Some (register u w + 1))) (λ (v : Store). Ok (v, []))))

pop_loses_none : (s t : Store) (w : ℕ) (left : Option ℕ) (items : List ℕ) → waiting t ≡ items → waiting s ≡ items → jobs_of (run_result s (popped t w left items)) ≡ waiting s
pop_loses_none s t w left [] e f = count_loses_none s t w left None (nat_lt greatest (register t w + 1)) (e ∙ sym f)
pop_loses_none s t w left (front ∷ others) e f =
    let u : Store = with_queue t 0 others in
    count_loses_none s u w left (Some front) (nat_lt greatest (register u w + 1)) (ap (λ (l : List ℕ). front ∷ l) (front_leaves t.queues front others e) ∙ sym f)

take_loses_none : (s : Store) (w : ℕ) (short : Bool) → jobs_of (run_result s (then_outcome (if short then Err Short else Ok (with_register s 15 (register s 15 - 1), Some (register s 15 - 1))) (λ (t : Store). then_outcome (pop_effect t 0 (waiting t)) (λ (u : Store). then_outcome (if nat_lt greatest (register u w + 1) then Err Overflow else Ok (with_register u w (register u w + 1), Some (register u w + 1))) (λ (v : Store). Ok (v, []))))))
    ≡ waiting s
take_loses_none s w true = refl
take_loses_none s w false = pop_loses_none s (with_register s 15 (register s 15 - 1)) w (Some (register s 15 - 1)) (waiting s) refl refl

script_loses_none : (s : Store) (script : List Instr) → TakesJob script → jobs_of (run s script) ≡ waiting s
script_loses_none s script takes = subst (λ (l : List Instr). jobs_of (run s l) ≡ waiting s) (sym takes.2) (take_loses_none s takes.0 (nat_lt (register s 15) 1))

-- a serial history of such scripts loses no job
pub loses_none : (s : Store) (h : List HistoryEntry) → IsSerial s h → All (λ (e : HistoryEntry). TakesJob e.script) h → LosesNoJob s h
loses_none s [] serial all = refl
loses_none s (e ∷ h) serial all =
    let takes = All-head (λ (e : HistoryEntry). TakesJob e.script) e h all in
    let t : Store = (run s e.script).0 in
    append_assoc (job_in e.reply) (jobs_in h) (waiting (store_after t h))
    ∙ ap (λ (l : List ℕ). job_in e.reply ++ l) (loses_none t h serial.1 (All-tail (λ (e : HistoryEntry). TakesJob e.script) e h all))
    ∙ ap (λ (r : Reply). job_in r ++ waiting t) (sym serial.0)
    ∙ script_loses_none s e.script takes

-- two histories, the second of which goes on from the end of the first
pub jobs_join : (h k : List HistoryEntry) → jobs_in (h ++ k) ≡ jobs_in h ++ jobs_in k
jobs_join [] k = refl
jobs_join (e ∷ h) k = ap (λ (l : List ℕ). job_in e.reply ++ l) (jobs_join h k) ∙ sym (append_assoc (job_in e.reply) (jobs_in h) (jobs_in k))

pub losses_join : (s : Store) (h k : List HistoryEntry) → store_after s (h ++ k) ≡ store_after (store_after s h) k → LosesNoJob s h → LosesNoJob (store_after s h) k → LosesNoJob s (h ++ k)
losses_join s h k ends one other =
    (λ i. jobs_join h k i ++ waiting (ends i))
    ∙ append_assoc (jobs_in h) (jobs_in k) (waiting (store_after (store_after s h) k))
    ∙ ap (λ (l : List ℕ). jobs_in h ++ l) other
    ∙ one
