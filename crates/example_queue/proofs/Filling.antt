-- What is saved after two scripts of jobs, and what workers leave of it.
use Rattle.std.proofs.Common.{◌≡◌, ℕ, zero, suc, ◌+◌, ◌<◌, ◌≤◌, Bool, false, if◌then◌else◌, nat_lt, nat_le, List, [], ◌∷◌, ◌++◌, length, get_or, set, replicate, Option, Some, None, Ok, Err, refl, ap, subst, ◌∙◌, arith}
use Rattle.std.specs.FinMap as fm
use Rattle.std.specs.Ordering.{nat_cmp}
use Rattle.std.proofs.lemmas.Bool.Decides.{nat_tests}
use Rattle.std.proofs.lemmas.List.{length-append}
use Rattle.of_script.specs.declared.instr.TheConstants.{REGISTERS}
use Rattle.of_script.specs.declared.instr.Instr.TheVariants.{Add, Push}
use Rattle.of_script.specs.declared.instr.Cause.TheVariants.{Overflow, NoRoom}
use Rattle.of_script.specs.Language.{greatest}
use Rattle.of_script.specs.declared.instr.Instr.{Instr}
use Rattle.of_store.specs.Store.{Store, InstrEffect, ScriptOutcome, empty_store, stored_count, instr_effect, outcome_of_script, with_answer_first, then_outcome, run, run_result, last_store}
use Rattle.of_store.specs.Replies.{reply_value_of}
use Rattle.of_plan.specs.declared.answer.Answer.{Answer}
use Rattle.of_memory.specs.declared.memory.Memory.{Memory}
use Rattle.of_memory.specs.declared.handle.Handle.{Handle}
use Rattle.of_memory.specs.declared.saved.Saved.{Saved}
use Rattle.of_memory.specs.History.{Made, Replied}
use Rattle.of_memory.specs.Handles.{HasMade, IsSame, MakesCall, StaysOpenOnlyIfStopped, number_of_handle}
use Rattle.of_memory.specs.Memories.{HasMadeOf, HasNoneOpen, HasHistory, IsStill, KnowsOthers, StartsWith, TakesOut, PutsBack, callers_of}
use Rattle.of_memory.specs.Saving.{SavedHolds}
use Rattle.of_memory.specs.Joining.{MemoriesStay, NoneStaysOpen, LoneCallsAreSaved, HasMadeAlone, EndsWithReply}
use Rattle.example_queue.specs.Jobs.{six_jobs, twelve_jobs}
use Rattle.example_queue.specs.Workers.{IsWorkedOffLater, HoldsTwelveJobs, LosesNoneOfTwelve}

-- a store in which these jobs wait, register 15 has this number, and all else is empty
abbrev at : (count : ℕ) (jobs : List ℕ) → Store
at count jobs = record {
  registers = set (replicate REGISTERS 0) 15 count;
  keys = fm.empty;
  queues = jobs ∷ [] ∷ [] ∷ [] ∷ [];
  room = 32;
}

-- one instruction that is not aborted, and the others
goes_on : (s t : Store) (i : Instr) (v : Option ℕ) (is : List Instr) → instr_effect s i ≡ Ok (t, v) → outcome_of_script s (i ∷ is) ≡ with_answer_first v (outcome_of_script t is)
goes_on s t i v is e = ap (λ (x : InstrEffect). then_outcome x (λ (u : Store). outcome_of_script u is)) e

counts : (n : ℕ) (jobs : List ℕ) → n + 6 ≤ greatest → instr_effect (at n jobs) (Add 15 6) ≡ Ok (at (n + 6) jobs, Some (n + 6))
counts n jobs few =
    let small : nat_lt greatest (n + 6) ≡ false = grind (arith, nat_tests) in
    ap (λ (over : Bool). if over then Err Overflow else Ok (at (n + 6) jobs, Some (n + 6))) small

pushes : (n : ℕ) (jobs : List ℕ) (job : ℕ) → length jobs < 32 → instr_effect (at n jobs) (Push 0 job) ≡ Ok (at n (jobs ++ job ∷ []), None)
pushes n jobs job few =
    let kept : stored_count (at n jobs) ≡ length jobs = omega (arith, fm.len-empty nat_cmp ℕ) in
    let room : nat_le 32 (stored_count (at n jobs)) ≡ false = grind (arith, nat_tests, kept) in
    ap (λ (full : Bool). if full then Err NoRoom else Ok (at n (jobs ++ job ∷ []), None)) room

-- six jobs more wait after the script
abbrev with_six : List ℕ → (first : ℕ) → List ℕ
with_six jobs f = (((((jobs ++ f ∷ []) ++ (f + 1) ∷ []) ++ (f + 2) ∷ []) ++ (f + 3) ∷ []) ++ (f + 4) ∷ []) ++ (f + 5) ∷ []

module _ (n : ℕ) (jobs : List ℕ) (f : ℕ) (few : n + 6 ≤ greatest) (room : length jobs + 6 ≤ 32) where
  abbrev m : ℕ
  m = n + 6

  abbrev one : List ℕ
  one = jobs ++ f ∷ []

  abbrev two : List ℕ
  two = one ++ (f + 1) ∷ []

  abbrev three : List ℕ
  three = two ++ (f + 2) ∷ []

  abbrev four : List ℕ
  four = three ++ (f + 3) ∷ []

  abbrev five : List ℕ
  five = four ++ (f + 4) ∷ []

  abbrev answered_none : ScriptOutcome → ScriptOutcome
  answered_none o = with_answer_first None o

  long : (xs : List ℕ) (x : ℕ) → length (xs ++ x ∷ []) ≡ length xs + 1
  long xs x = length-append xs (x ∷ [])

  all_pushed : outcome_of_script (at m jobs) (Push 0 f ∷ Push 0 (f + 1) ∷ Push 0 (f + 2) ∷ Push 0 (f + 3) ∷ Push 0 (f + 4) ∷ Push 0 (f + 5) ∷ []) ≡ Ok (at m (with_six jobs f), None ∷ None ∷ None ∷ None ∷ None ∷ None ∷ [])
  all_pushed =
      let l1 = long jobs f in
      let l2 = long one (f + 1) in
      let l3 = long two (f + 2) in
      let l4 = long three (f + 3) in
      let l5 = long four (f + 4) in
      goes_on (at m jobs) (at m one) (Push 0 f) None (Push 0 (f + 1) ∷ Push 0 (f + 2) ∷ Push 0 (f + 3) ∷ Push 0 (f + 4) ∷ Push 0 (f + 5) ∷ []) (pushes m jobs f (omega (arith, room)))
      ∙ ap answered_none (goes_on (at m one) (at m two) (Push 0 (f + 1)) None (Push 0 (f + 2) ∷ Push 0 (f + 3) ∷ Push 0 (f + 4) ∷ Push 0 (f + 5) ∷ []) (pushes m one (f + 1) (omega (arith, room, l1)))
      ∙ ap answered_none (goes_on (at m two) (at m three) (Push 0 (f + 2)) None (Push 0 (f + 3) ∷ Push 0 (f + 4) ∷ Push 0 (f + 5) ∷ []) (pushes m two (f + 2) (omega (arith, room, l1, l2)))
      ∙ ap answered_none (goes_on (at m three) (at m four) (Push 0 (f + 3)) None (Push 0 (f + 4) ∷ Push 0 (f + 5) ∷ []) (pushes m three (f + 3) (omega (arith, room, l1, l2, l3)))
      ∙ ap answered_none (goes_on (at m four) (at m five) (Push 0 (f + 4)) None (Push 0 (f + 5) ∷ []) (pushes m four (f + 4) (omega (arith, room, l1, l2, l3, l4)))
      ∙ ap answered_none (goes_on (at m five) (at m (with_six jobs f)) (Push 0 (f + 5)) None [] (pushes m five (f + 5) (omega (arith, room, l1, l2, l3, l4, l5))))))))

  pub six_more : (run (at n jobs) (six_jobs f)).0 ≡ at (n + 6) (with_six jobs f)
  six_more =
      ap (λ (o : ScriptOutcome). (run_result (at n jobs) o).0)
      (goes_on (at n jobs) (at m jobs) (Add 15 6) (Some m) (Push 0 f ∷ Push 0 (f + 1) ∷ Push 0 (f + 2) ∷ Push 0 (f + 3) ∷ Push 0 (f + 4) ∷ Push 0 (f + 5) ∷ []) (counts n jobs few) ∙ ap (with_answer_first (Some m)) all_pushed)

-- the store after both scripts
abbrev filled : Store
filled = at 12 twelve_jobs

both_scripts : last_store (empty_store 32) (six_jobs 11 ∷ six_jobs 17 ∷ []) ≡ filled
both_scripts =
    ap (λ (s : Store). (run s (six_jobs 17)).0) (six_more 0 [] 11 (omega arith) (omega arith))
    ∙ six_more 6 (with_six [] 11) 17 (omega arith) (omega arith)

-- a call of this script was answered so
abbrev pub answered : List Instr → Answer → Made
answered script a = record { script = script; ended = Replied (reply_value_of a.reply) a.seq a.steps a.announced }

-- one handle of a memory that was just opened has made two calls and has left
module _ (m k l : Memory) (h f g : Handle) (one two : List Instr) (a b : Answer)
    (fresh : (n : ℕ) → n < callers_of m → HasMadeOf m n []) (none : HasNoneOpen m) (number : number_of_handle h ≡ 0) (some : 0 < callers_of m) (came : IsStill m k) (taken : TakesOut m k h) (knew : (ms : List Made) → HasMadeOf m 0 ms → HasMade h ms) (rest : KnowsOthers 0 m k)
    (first : IsSame h f) (made_one : MakesCall one (Ok a) h f) (second : IsSame f g) (made_two : MakesCall two (Ok b) f g) (closed : StaysOpenOnlyIfStopped two (Ok b) g)
    (left : IsStill k l) (back : PutsBack k l g) (knows : (ms : List Made) → HasMade g ms → HasMadeOf l (number_of_handle g) ms) (others : KnowsOthers (number_of_handle g) k l)
    (stay : MemoriesStay) (none_stays : NoneStaysOpen) where
  same : IsSame h g
  same = record { home = second.home ∙ first.home; number = second.number ∙ first.number }

  is_first : number_of_handle g ≡ 0
  is_first = same.number ∙ number

  replied : (i : ℕ) (d : Made) → i < 2 → EndsWithReply (get_or (answered one a ∷ answered two b ∷ []) i d).ended
  replied zero d low = tt
  replied (suc zero) d low = tt
  replied (suc (suc i)) d low = absurd (omega (arith, low))

  pub alone : HasMadeAlone l 0 (answered one a ∷ answered two b ∷ [])
  alone = record {
    made = subst (λ (n : ℕ). HasMadeOf l n (answered one a ∷ answered two b ∷ [])) is_first (knows (answered one a ∷ answered two b ∷ []) (made_two (answered one a ∷ []) (made_one [] (knew [] (fresh 0 some)))));
    replied = λ i d low. replied i d low;
    others = λ i low ne. others i [] (λ is. ne (is ∙ is_first)) (rest i [] ne (fresh i (omega (arith, low, (stay k l left).callers, (stay m k came).callers))));
    none_open = none_stays m k l h g none taken same closed back;
  }

pub holds_twelve : LoneCallsAreSaved → (l : Memory) (d : Saved) (a b : Answer) → StartsWith l (empty_store 32) → HasHistory l d → HasMadeAlone l 0 (answered (six_jobs 11) a ∷ answered (six_jobs 17) b ∷ []) → HoldsTwelveJobs d
holds_twelve saved l d a b starts history calls = record {
  store = filled;
  holds = subst (SavedHolds d) both_scripts (saved l 0 (answered (six_jobs 11) a ∷ answered (six_jobs 17) b ∷ []) d calls history (empty_store 32) starts);
  jobs = refl;
  counts = record { registers = omega arith; count = refl };
  none_done = refl;
}

-- workers lose none of the twelve
pub loses_none_of_twelve : (c d : Saved) → HoldsTwelveJobs c → IsWorkedOffLater c d → LosesNoneOfTwelve d
loses_none_of_twelve c d holds later =
    let found = later holds.store holds.holds in
    let counts = found.1.counts holds.counts in
    record {
      first = holds.store;
      history = found.0;
      serial = found.1.serial;
      ends = found.1.ends;
      jobs = found.1.jobs ∙ holds.jobs;
      counts = counts.0;
      done = omega (arith, counts.1, holds.none_done);
    }
