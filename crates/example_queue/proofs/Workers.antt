-- What workers leave of a memory.
use Rattle.std.proofs.Common.{◌≡◌, ℕ, ◌<◌, ◌⊎◌, inl, inr, List, [], ◌∷◌, ◌++◌, length, get_or, Result, Ok, Err, refl, sym, subst, ◌∙◌, arith}
use Rattle.std.specs.List.{All}
use Rattle.std.proofs.lemmas.Bool.{cases_lt}
use Rattle.std.proofs.lemmas.List.Elements.{All-push}
use Rattle.of_script.specs.declared.instr.Instr.{Instr}
use Rattle.of_store.specs.Store.{Store}
use Rattle.of_store.specs.Replies.{reply_value_of}
use Rattle.of_plan.specs.declared.answer.Answer.{Answer}
use Rattle.of_cells.specs.declared.error.RunError.{RunError}
use Rattle.of_cells.specs.declared.error.RunError.TheVariants.{Stopped, Spent as NoneLeft, InCall, NoCall, NoTicket}
use Rattle.of_memory.specs.declared.memory.Memory.{Memory}
use Rattle.of_memory.specs.declared.handle.Handle.{Handle}
use Rattle.of_memory.specs.declared.saved.Saved.{Saved}
use Rattle.of_memory.specs.History.{HistoryEntry, Made, no_made, Replied, Spent, store_after, IsOneOf}
use Rattle.of_memory.specs.Called.{made_with}
use Rattle.of_memory.specs.Handles.{HasOpen, MakesCall, OpensOnly, number_of_handle}
use Rattle.of_memory.specs.Memories.{HasMadeOf, HasOpenOf, HasNoneOpen, HasHistory, IsStill, callers_of}
use Rattle.of_memory.specs.Saving.{SavedHolds}
use Rattle.of_memory.specs.Tasks.{TaskWork, HasWorkedAs, HaveWorked, KnowsRest}
use Rattle.of_memory.specs.Joining.{HistoriesJoin}
use Rattle.example_queue.specs.Jobs.{TakesJob}
use Rattle.example_queue.specs.Workers.{AllTake, HasTaken, OnlyTakes, HasTakenOf, IsForWorkers, LeadsWithoutLoss, IsWorkedOff, IsWorkedOffLater}
use Rattle.example_queue.proofs.Jobs.{loses_none, losses_join, jobs_join}
use Rattle.example_queue.proofs.Counts.{counts_each, counts_join}

-- ---- workers keep to jobs

-- a memory that was just opened is for workers
pub none_yet : (m : Memory) → ((n : ℕ) → n < callers_of m → HasMadeOf m n []) → HasNoneOpen m → IsForWorkers m
none_yet m none idle n lt = record {
  made = [];
  has = none n lt;
  all = λ i d low. absurd (omega (arith, low));
  open_call = λ script opened. absurd (idle n _ opened.opened);
}

module _ {J : Type 0} (Does : TaskWork J) (does : (x y : J) (h k : Handle) → Does x h y k → OnlyTakes h k) (m k : Memory) (still : IsStill m k) (queue : IsForWorkers m) where
  taken_by : (n : ℕ) (x y : J) → n < callers_of m → HasWorkedAs Does n m k x y → HasTakenOf k n
  taken_by n x y lt w =
      let b = queue n lt in
      let before : HasTaken w.begun = record {
        made = b.made;
        has = w.knew.only b.made (subst (λ (i : ℕ). HasMadeOf m i b.made) (sym w.number) b.has);
        all = b.all;
        open_call = λ script opened. b.open_call script (subst (λ (i : ℕ). HasOpenOf m i script) w.number (w.knew.open_call script opened));
      } in
      let after = does x y w.begun w.left w.worked.done before in
      let at : number_of_handle w.left ≡ n = w.worked.same.number ∙ w.number in
      record {
        made = after.made;
        has = subst (λ (i : ℕ). HasMadeOf k i after.made) at (w.knows.made after.made after.has);
        all = after.all;
        open_call = λ script opened. after.open_call script (w.knows.only_open script (subst (λ (i : ℕ). HasOpenOf k i script) (sym at) opened));
      }

  pub still_queue : (xs ys : List J) → HaveWorked Does m k xs ys → KnowsRest (length xs) m k → callers_of k ≡ callers_of m → IsForWorkers k
  still_queue xs ys worked rest same n low = elim (cases_lt n (length xs)) [
    | inl lt ↦ worked_at xs ys worked n lt (omega (arith, low, same))
    | inr high ↦
        let b = queue n (omega (arith, low, same)) in
        let r = rest n high in
        record { made = b.made; has = r.made b.made b.has; all = b.all; open_call = λ script opened. b.open_call script (r.only_open script opened) }
  ]
    where
      worked_at : (xs ys : List J) → HaveWorked Does m k xs ys → (n : ℕ) → n < length xs → n < callers_of m → HasTakenOf k n
      worked_at [] ys worked n lt low = absurd (omega (arith, lt))
      worked_at (x ∷ xs) ys worked n lt low = taken_by n _ _ low (worked.each n x lt)

-- ---- a call of a worker

all_take : (script : List Instr) (r : Result Answer RunError) (ms : List Made) → TakesJob script → AllTake ms → AllTake (made_with script r ms)
all_take script (Ok a) ms takes all = All-push (λ (m : Made). TakesJob m.script) ms (record { script = script; ended = Replied (reply_value_of a.reply) a.seq a.steps a.announced }) all takes
all_take script (Err (Stopped asked)) ms takes all = all
all_take script (Err (NoneLeft seq)) ms takes all = All-push (λ (m : Made). TakesJob m.script) ms (record { script = script; ended = Spent seq }) all takes
all_take script (Err InCall) ms takes all = all
all_take script (Err NoCall) ms takes all = all
all_take script (Err NoTicket) ms takes all = all

open_takes : (h : Handle) (script s : List Instr) → TakesJob script → HasTaken h → (s ≡ script) ⊎ HasOpen h s → TakesJob s
open_takes h script s takes taken (inl is) = subst TakesJob (sym is) takes
open_takes h script s takes taken (inr before) = taken.open_call s before

pub takes_on : (script : List Instr) (r : Result Answer RunError) (h k : Handle) → TakesJob script → MakesCall script r h k → OpensOnly script h k → OnlyTakes h k
takes_on script r h k takes makes only taken = record {
  made = made_with script r taken.made;
  has = makes taken.made taken.has;
  all = all_take script r taken.made takes taken.all;
  open_call = λ s opened. open_takes h script s takes taken (only s opened);
}

-- ---- what is saved

made_takes : (ms : List Made) (y : ℕ) → y < length ms → AllTake ms → TakesJob (get_or ms y no_made).script
made_takes ms y lt all = all y no_made lt

entry_takes : (m : Memory) (n before : ℕ) (t : HasTakenOf m n) (e : HistoryEntry) → IsOneOf before t.made (HasOpenOf m n) e → TakesJob e.script
entry_takes m n before t e (inl one) = subst TakesJob (sym one.3) (made_takes t.made one.0 one.1 t.all)
entry_takes m n before t e (inr one) = t.open_call e.script one.1

-- the history of a memory for workers loses no job
pub worked_off : (m : Memory) (d : Saved) → IsForWorkers m → HasHistory m d → IsWorkedOff m d
worked_off m d queue history s starts =
    let found = history s starts in
    let h = found.0 in
    let leads = found.1 in
    let all : All (λ (e : HistoryEntry). TakesJob e.script) h =
    λ i e lt.
    let n = (get_or h i e).caller in
    let t = queue n (leads.callers i e lt) in
    entry_takes m n _ t (get_or h i e) (leads.only n t.made t.has i e lt refl) in
    (h, record { serial = leads.serial; ends = leads.ends; jobs = loses_none s h leads.serial all; counts = counts_each s h leads.serial all })

-- the history of one day and that of the next are one
pub days_join : HistoriesJoin → (s : Store) (noon evening : Saved) (h : List HistoryEntry) → LeadsWithoutLoss s noon h → IsWorkedOffLater noon evening → (k : List HistoryEntry) × LeadsWithoutLoss s evening k
days_join joins s noon evening h one later =
    let next = later (store_after s h) one.ends in
    let k = next.0 in
    let joined = joins s h k one.serial next.1.serial in (
      h ++ k,
      record {
        serial = joined.0;
        ends = subst (SavedHolds evening) (sym joined.1) next.1.ends;
        jobs = losses_join s h k joined.1 one.jobs next.1.jobs;
        counts = counts_join s h k joined.1 (jobs_join h k) one.counts next.1.counts;
      },
    )
