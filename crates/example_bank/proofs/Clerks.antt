-- A clerk goes on with its job.
use Rattle.std.proofs.Common.{◌≡◌, ℕ, ◌+◌, ◌<◌, ◌⊎◌, inl, inr, List, [], ◌∷◌, ◌++◌, length, get_or, take, map, Option, Some, None, Ok, Err, vec_len, refl, sym, ap, subst, ◌∙◌, arith, append_assoc}
use Rattle.std.proofs.lemmas.List.{append-nil, length-append, length-map, get_or-map, take_more}
use Rattle.std.proofs.lemmas.List.Elements.{All-push}
use Rattle.of_script.specs.declared.instr.Instr.{Instr}
use Rattle.of_store.specs.Store.{Reply}
use Rattle.of_store.specs.Replies.{reply_value_of}
use Rattle.of_plan.specs.declared.answer.Answer.{Answer}
use Rattle.of_cells.specs.declared.error.RunError.{RunError}
use Rattle.of_cells.specs.declared.error.RunError.TheVariants.{Stopped, Spent as NoneLeft, InCall, NoCall, NoTicket}
use Rattle.of_memory.specs.declared.handle.Handle.{Handle}
use Rattle.of_memory.specs.History.{Made, Replied, Spent, Lost}
use Rattle.of_memory.specs.Called.{LeavesAsItWas}
use Rattle.of_memory.specs.Handles.{IsHandle, HasMade, HasOpen, HasCallOpen, MakesCall, StaysOpenOnlyIfStopped, OpensOnly, RefusesCall, CallsAreCounted, tickets_behind, steps_so_far, IsSame}
use Rattle.of_memory.specs.Within.{KeepsWithin}
use Rattle.example_bank.specs.declared.transfer.Transfer.{Transfer}
use Rattle.example_bank.specs.declared.clerk.Clerk.{Clerk}
use Rattle.example_bank.specs.Transfers.{transfer_script}
use Rattle.example_bank.specs.Calls.{Call, with_end, replied_in, IsNotLost, scripts_in}
use Rattle.example_bank.specs.Clerks.{scripts_of, counted, next_script, Counts, CountsReply, CountsNone, IsStopped, IsNotSpent, IsEarly, HasCause, HasWorked, GoesOn}
use Rattle.example_bank.proofs.Counts.{made_join, aborted_join, scripts_join, one_each}

-- ---- what is counted

pub replied_join : (ms ns : List Made) → replied_in (ms ++ ns) ≡ replied_in ms ++ replied_in ns
replied_join [] ns = refl
replied_join (m ∷ ms) ns = go m.ended (replied_join ms ns)
  where
    go : (end : _) → replied_in (ms ++ ns) ≡ replied_in ms ++ replied_in ns → with_end m.script end (replied_in (ms ++ ns)) ≡ with_end m.script end (replied_in ms) ++ replied_in ns
    go (Replied r seq steps announced) is = ap (λ (l : List Call). (m.script, r) ∷ l) is
    go (Spent seq) is = is
    go (Lost seq) is = is

pub counts_none : (x y : Clerk) → y.job ≡ x.job → CountsNone x y → Counts x y []
counts_none x y job none = record {
  job = job;
  front = append-nil (take (counted x) (scripts_of x)) ∙ ap (λ (k : ℕ). take k (scripts_of x)) (omega (arith, none.0, none.1));
  made = omega (arith, none.0);
  aborted = omega (arith, none.1);
}

-- what is counted then is counted from the first one on
pub counts_join : (x y z : Clerk) (cs ds : List Call) → Counts x y cs → Counts y z ds → Counts x z (cs ++ ds)
counts_join x y z cs ds one other =
    let first : List (List Instr) = take (counted x) (scripts_of x) in
    let same : scripts_of y ≡ scripts_of x = ap (λ (j : _). map (λ t. transfer_script t.from t.to t.amount) j.items) one.job in
    record {
      job = other.job ∙ one.job;
      front = ap (λ (l : List (List Instr)). first ++ l) (scripts_join cs ds)
          ∙ sym (append_assoc first (scripts_in cs) (scripts_in ds))
          ∙ ap (λ (l : List (List Instr)). l ++ scripts_in ds) one.front
          ∙ ap (λ (l : List (List Instr)). take (counted y) l ++ scripts_in ds) (sym same)
          ∙ other.front
          ∙ ap (take (counted z)) same;
      made = omega (arith, one.made, other.made, made_join cs ds);
      aborted = omega (arith, one.aborted, other.aborted, aborted_join cs ds);
    }

-- one reply more
pub counts_one : (y z : Clerk) (r : Reply) → counted y < vec_len y.job → z.job ≡ y.job → CountsReply r y z → Counts y z ((next_script y, r) ∷ [])
counts_one y z r lt job count =
    let more : counted z ≡ counted y + 1 = omega (arith, count.made, count.aborted, one_each r) in
    let low : counted y < length (scripts_of y) = omega (arith, lt, length-map y.job.items (λ t. transfer_script t.from t.to t.amount), y.job.ok.0) in
    record {
      job = job;
      front = sym (take_more (scripts_of y) (counted y) [] low) ∙ ap (λ (k : ℕ). take k (scripts_of y)) (sym more);
      made = omega (arith, count.made);
      aborted = omega (arith, count.aborted);
    }

-- the next script, as it is read off the job
pub script_is : (y : Clerk) (t : Transfer) → t ≡ get_or y.job.items (counted y) t → counted y < vec_len y.job → transfer_script t.from t.to t.amount ≡ next_script y
script_is y t is lt =
    let script : Transfer → List Instr = λ u. transfer_script u.from u.to u.amount in
    sym (get_or-map script y.job.items (counted y) t [] (omega (arith, lt, y.job.ok.0)) ∙ ap script (sym is))

-- ---- the day begins

-- ---- a call

-- a handle with an open call has it open of some script
pub has_open : (h : Handle) → IsHandle h → HasCallOpen h → (script : List Instr) × HasOpen h script
has_open h handle opened =
    let op = handle.open_call opened in
    (op.0, record { is = op.1; opened = (opened, op.2) })

-- the clerk's counts stay
pub record StaysAt (y z : Clerk) : Type 0 where
  pub job : z.job ≡ y.job
  pub none : CountsNone y z
  pub answered : z.answered ≡ y.answered
  pub steps : z.steps ≡ y.steps
  pub pending : z.pending ≡ y.pending

module _ (y z : Clerk) (h k : Handle) (script : List Instr) (is : script ≡ next_script y) (ended : y.end ≡ None) (next : counted y < vec_len y.job) where
  -- it was answered
  pub answered_on : (a : Answer) → z.job ≡ y.job → CountsReply (reply_value_of a.reply) y z → z.answered ≡ y.answered + 1 → z.steps ≡ y.steps → z.pending ≡ y.pending → z.end ≡ y.end → IsSame h k → MakesCall script (Ok a) h k
      → StaysOpenOnlyIfStopped script (Ok a) k → GoesOn y h z k
  answered_on a job count answered steps pending end same makes stays x w =
      let r : Reply = reply_value_of a.reply in
      let m : Made = record { script = script; ended = Replied r a.seq a.steps a.announced } in
      let none : z.end ≡ None = end ∙ ended in
      let calls : replied_in (w.made ++ m ∷ []) ≡ replied_in w.made ++ (next_script y, r) ∷ [] = replied_join w.made (m ∷ []) ∙ ap (λ (s : List Instr). replied_in w.made ++ (s, r) ∷ []) is in
      let one = counts_one y z r next job count in
      record {
        made = w.made ++ m ∷ [];
        has = makes w.made w.has;
        none_lost = All-push (λ (c : Made). IsNotLost c.ended) w.made m w.none_lost tt;
        counts = subst (Counts x z) (sym calls) (counts_join x y z _ _ w.counts one);
        answered = omega (arith, answered, w.answered, ap length calls, length-append (replied_in w.made) ((next_script y, r) ∷ []));
        whole = λ not. omega (arith, answered, w.whole (subst IsNotSpent (sym ended) tt), length-append w.made (m ∷ []));
        open_call = λ s opened. absurd (stays opened.opened.0);
        left = λ early. absurd (subst IsEarly none early);
        cause = subst (HasCause x.steps (tickets_behind k) z.answered) (sym none) tt;
        steps = steps ∙ w.steps;
        pending = pending ∙ w.pending;
      }

  -- the call has ended early, and the list of calls stays
  ends_with : (e : RunError) → z.end ≡ Some e → StaysAt y z → (x : Clerk) → (w : HasWorked x y h) → HasMade k w.made → (IsNotSpent (Some e)) → ((s : List Instr) → HasOpen k s → IsStopped (Some e) × (s ≡ next_script y))
      → HasCause x.steps (tickets_behind k) y.answered (Some e) → HasWorked x z k
  ends_with e end stay x w has whole opens cause =
      let at : counted z ≡ counted y = omega (arith, stay.none.0, stay.none.1) in
      let same : scripts_of z ≡ scripts_of y = ap (λ (j : _). map (λ t. transfer_script t.from t.to t.amount) j.items) stay.job in
      record {
        made = w.made;
        has = has;
        none_lost = w.none_lost;
        counts = subst (Counts x z) (append-nil (replied_in w.made)) (counts_join x y z _ _ w.counts (counts_none y z stay.job stay.none));
        answered = stay.answered ∙ w.answered;
        whole = λ not. stay.answered ∙ w.whole (subst IsNotSpent (sym ended) tt);
        open_call = λ s opened. let one = opens s opened in (subst IsStopped (sym end) one.0, one.1 ∙ sym (λ i. get_or (same i) (at i) []));
        left = λ early. omega (arith, at, next, ap vec_len stay.job);
        cause = subst (λ (o : Option RunError). HasCause x.steps (tickets_behind k) z.answered o) (sym end) (subst (λ (n : ℕ). HasCause x.steps (tickets_behind k) n (Some e)) (sym stay.answered) cause);
        steps = stay.steps ∙ w.steps;
        pending = stay.pending ∙ w.pending;
      }

  not_open : (x : Clerk) → HasWorked x y h → (s : List Instr) → HasOpen h s → ⊥
  not_open x w s opened = subst IsStopped ended (w.open_call s opened).0

  -- nothing was made
  unmade_on : (e : RunError) → z.end ≡ Some e → StaysAt y z → k ≡ h → (x : Clerk) (w : HasWorked x y h) → IsNotSpent (Some e) → HasCause x.steps (tickets_behind h) y.answered (Some e) → HasWorked x z k
  unmade_on e end stay same x w whole cause =
      ends_with e end stay x w (subst (λ (j : Handle). HasMade j w.made) (sym same) w.has) whole
      (λ s opened. absurd (not_open x w s (subst (λ (j : Handle). HasOpen j s) same opened)))
      (subst (λ (j : Handle). HasCause x.steps (tickets_behind j) y.answered (Some e)) (sym same) cause)

  -- it was not answered
  pub ended_on : (e : RunError) → z.end ≡ Some e → StaysAt y z → CallsAreCounted → IsHandle h → IsSame h k → MakesCall script (Err e) h k → StaysOpenOnlyIfStopped script (Err e) k → RefusesCall h (Err e) → LeavesAsItWas {A = Handle} (Err e) h k
      → KeepsWithin 0 y.steps (steps_so_far k) (Err e) → OpensOnly script h k → GoesOn y h z k
  ended_on (Stopped asked) end stay counts handle same makes stays refuses unmade within only x w =
      ends_with (Stopped asked) end stay x w (makes w.made w.has) tt (λ s opened. (tt, opens s (only s opened))) (within.0 ∙ ap (λ (n : ℕ). n + 1) w.steps)
    where
      opens : (s : List Instr) → (s ≡ script) ⊎ HasOpen h s → s ≡ next_script y
      opens s (inl same) = same ∙ is
      opens s (inr before) = absurd (not_open x w s before)
  ended_on (NoneLeft seq) end stay counts handle same makes stays refuses unmade within only x w =
      let m : Made = record { script = script; ended = Spent seq } in
      let calls : replied_in (w.made ++ m ∷ []) ≡ replied_in w.made = replied_join w.made (m ∷ []) ∙ append-nil (replied_in w.made) in
      let at : counted z ≡ counted y = omega (arith, stay.none.0, stay.none.1) in
      record {
        made = w.made ++ m ∷ [];
        has = makes w.made w.has;
        none_lost = All-push (λ (c : Made). IsNotLost c.ended) w.made m w.none_lost tt;
        counts = subst (Counts x z) (append-nil (replied_in w.made) ∙ sym calls) (counts_join x y z _ _ w.counts (counts_none y z stay.job stay.none));
        answered = stay.answered ∙ w.answered ∙ ap length (sym calls);
        whole = λ not. absurd (subst IsNotSpent end not);
        open_call = λ s opened. absurd (stays opened.opened.0);
        left = λ early. omega (arith, at, next, ap vec_len stay.job);
        cause = subst (HasCause x.steps (tickets_behind k) z.answered) (sym end) tt;
        steps = stay.steps ∙ w.steps;
        pending = stay.pending ∙ w.pending;
      }
  ended_on InCall end stay counts handle same makes stays refuses unmade within only x w = let opened = has_open h handle refuses in absurd (not_open x w opened.0 opened.1)
  ended_on NoCall end stay counts handle same makes stays refuses unmade within only x w = absurd refuses
  ended_on NoTicket end stay counts handle same makes stays refuses unmade within only x w =
      unmade_on NoTicket end stay unmade x w tt
      (λ small. refuses.1 (omega (
        arith,
        small,
        counts h w.made handle (λ opened. let one = has_open h handle opened in not_open x w one.0 one.1) w.has,
        w.whole (subst IsNotSpent (sym ended) tt),
      )))
