-- What a day leaves of the clerks' jobs.
use Rattle.std.proofs.Common.{◌≡◌, ℕ, ◌+◌, ◌<◌, ◌≤◌, ◌⊎◌, inl, inr, List, [], ◌∷◌, ◌++◌, false, length, get_or, Option, Some, None, vec_len, refl, sym, ap, subst, ◌∙◌, arith}
use Rattle.std.specs.List.{All}
use Rattle.std.proofs.lemmas.Bool.{cases_lt, true≢false}
use Rattle.std.proofs.lemmas.List.{append-nil, length-append, get_or_append_left, get_or-append-add, length-map}
use Rattle.std.proofs.lemmas.List.Elements.{All-map, All-push}
use Rattle.of_script.specs.declared.instr.Instr.{Instr}
use Rattle.of_script.specs.declared.instr.Instr.TheVariants.{Count}
use Rattle.of_store.specs.Store.{Store}
use Rattle.of_cells.specs.declared.error.RunError.{RunError}
use Rattle.of_cells.specs.declared.error.RunError.TheVariants.{Stopped, Spent as NoneLeft, InCall, NoCall, NoTicket}
use Rattle.of_memory.specs.declared.memory.Memory.{Memory}
use Rattle.of_memory.specs.declared.saved.Saved.{Saved}
use Rattle.of_memory.specs.History.{HistoryEntry, no_history_entry, Made, no_made, Replied, IsOneOf, HasOnly, ExplainsAll, ExplainsEnd, ScriptOnlyReads}
use Rattle.of_memory.specs.Rows.{made_before}
use Rattle.of_memory.specs.Handles.{number_of_handle, tickets_behind}
use Rattle.of_memory.specs.Memories.{HasMadeOf, HasOpenOf, HasNoneOpen, IsStill, LeadsTo, TellsLastOf, callers_of, tickets_before}
use Rattle.of_memory.specs.Saving.{saved_ticket, HoldsReply}
use Rattle.of_memory.specs.Tasks.{TaskWork, HasWorkedAs}
use Rattle.example_bank.specs.declared.transfer.Transfer.{Transfer}
use Rattle.example_bank.specs.declared.clerk.Clerk.{Clerk}
use Rattle.example_bank.specs.Transfers.{IsTransfer, transfer_script}
use Rattle.example_bank.specs.Calls.{replied_in, calls_of, IsNotLost}
use Rattle.example_bank.specs.Clerks.{scripts_of, counted, next_script, Counts, CountsNone, IsStopped, IsEarly, IsNotSpent, HasCause, HasWorked, IsThrough, WorksOn, Settles, SettlesEnd, IsPending, IsFinished}
use Rattle.example_bank.specs.Days.{HasEnded, open_in, one_if}
use Rattle.example_bank.proofs.Own.{NoneOpen, own_calls}
use Rattle.example_bank.proofs.Counts.{all_counted}
use Rattle.example_bank.proofs.Clerks.{counts_none, counts_join, counts_one, has_open, replied_join}

-- ---- the scripts of a job

pub are_transfers : (x : Clerk) → All IsTransfer (scripts_of x)
are_transfers x = All-map IsTransfer (λ (t : Transfer). transfer_script t.from t.to t.amount) x.job.items
    (λ k d lt. let t : Transfer = get_or x.job.items k d in (t.from, t.to, t.amount, t.from_is, t.to_is, refl))

next_is : (y : Clerk) → counted y < vec_len y.job → IsTransfer (next_script y)
next_is y lt = are_transfers y (counted y) [] (omega (arith, lt, length-map y.job.items (λ (t : Transfer). transfer_script t.from t.to t.amount), y.job.ok.0))

-- a transfer writes
writes : (script : List Instr) → IsTransfer script → ScriptOnlyReads script → ⊥
writes script is reads = true≢false (sym (subst ScriptOnlyReads is.5 reads 0 Count (omega arith)))

-- ---- a clerk in the evening

abbrev pub Does : TaskWork Clerk
Does x h y k = WorksOn x h y k

module _ (c : Saved) (m k : Memory) (n : ℕ) (x y : Clerk) (tickets : tickets_before m n ≡ saved_ticket c n) (still : IsStill m k) (none : HasMadeOf m n []) (idle : HasNoneOpen m) (w : HasWorkedAs Does n m k x y) where
  pub has_worked : HasWorked x y w.left × IsThrough y
  has_worked =
      w.worked.done
      (w.knew.only [] (subst (λ (i : ℕ). HasMadeOf m i []) (sym w.number) none))
      (λ opened. let one = has_open w.begun w.handle opened in idle (number_of_handle w.begun) _ (w.knew.open_call one.0 one.1).opened)

  abbrev at_number : number_of_handle w.left ≡ n
  at_number = w.worked.same.number ∙ w.number

  left_tickets : tickets_behind w.left ≡ saved_ticket c n
  left_tickets = (λ i. made_before ((w.worked.same.home ∙ w.from) i) (at_number i)) ∙ tickets

  now_tickets : tickets_before k n ≡ saved_ticket c n
  now_tickets = ap (λ (r : _). made_before r n) still ∙ tickets

  abbrev ms : List Made
  ms = has_worked.0.made

  made_now : HasMadeOf k n ms
  made_now = subst (λ (i : ℕ). HasMadeOf k i ms) at_number (w.knows.made ms has_worked.0.has)

  open_now : (script : List Instr) → HasOpenOf k n script → IsStopped y.end × (script ≡ next_script y)
  open_now script opened = has_worked.0.open_call script (w.knows.only_open script (subst (λ (i : ℕ). HasOpenOf k i script) (sym at_number) opened))

  module _ (d : Saved) (z : Clerk) (settles : Settles n c d y z) where
    -- in the history of the day
    module _ (s : Store) (h : List HistoryEntry) (leads : LeadsTo k s d h) (low : n < callers_of k) where
      abbrev t : ℕ
      t = tickets_before k n

      -- its calls that were answered are all that it has
      all_known : HasOnly h n t ms NoneOpen → Counts x y (calls_of n h)
      all_known only = subst (Counts x y) (sym (own_calls n t ms h leads.order has_worked.0.none_lost (leads.made n ms made_now) only)) has_worked.0.counts

      as_none : (e : HistoryEntry) → IsOneOf t ms (HasOpenOf k n) e → ((e.ticket ≡ t + length ms + 1) → HasOpenOf k n e.script → ⊥) → IsOneOf t ms NoneOpen e
      as_none e (inl one) not = inl one
      as_none e (inr last) not = absurd (not last.0 last.1)

      without_open : (IsStopped y.end → ⊥) → HasOnly h n t ms NoneOpen
      without_open not i e lt mine = as_none (get_or h i e) (leads.only n ms made_now i e lt mine) (λ at opened. not (open_now _ opened).0)

      counts_on : CountsNone y z → Counts x y (calls_of n h) → Counts x z (calls_of n h)
      counts_on none one = subst (Counts x z) (append-nil (calls_of n h)) (counts_join x y z _ _ one (counts_none y z settles.job none))

      plain : (IsStopped y.end → ⊥) → CountsNone y z → Counts x z (calls_of n h)
      plain not none = counts_on none (all_known (without_open not))

      module _ (stopped : IsStopped y.end) (whole : y.answered ≡ length ms) (room : counted y < vec_len y.job) where
        too_late : IsPending n c d y z → (i : ℕ) (e : HistoryEntry) → i < length h → (get_or h i e).caller ≡ n → (get_or h i e).ticket ≡ t + length ms + 1 → HasOpenOf k n (get_or h i e).script → ⊥
        too_late p i e lt mine at opened =
            let few = leads.upto n low i e lt mine (λ reads. writes (next_script y) (next_is y room) (subst ScriptOnlyReads (open_now (get_or h i e).script opened).1 reads)) in
            omega (arith, at, few, p.ticket, whole, now_tickets)

        -- the open call took no effect
        was_pending : IsPending n c d y z → Counts x z (calls_of n h)
        was_pending p = counts_on p.none (all_known (λ i e lt mine. as_none (get_or h i e) (leads.only n ms made_now i e lt mine) (too_late p i e lt mine)))

        -- it took effect, and stands in the history
        module _ (f : IsFinished n c d y z) (e : HistoryEntry) (mine : e.caller ≡ n) (holds : HoldsReply d n e.reply) (p : ℕ) (within : p < length h) (here : get_or h p no_history_entry ≡ e) (at : e.ticket ≡ t + length ms + 1) (is : e.script ≡ next_script y) where
          abbrev one : Made
          one = record { script = next_script y; ended = Replied e.reply 0 0 false }

          abbrev all : List Made
          all = ms ++ one ∷ []

          at_end : get_or all (length ms) no_made ≡ one
          at_end = ap (λ (i : ℕ). get_or all i no_made) (omega arith) ∙ get_or-append-add ms (one ∷ []) 0 no_made

          explains : ExplainsAll h n t all
          explains i lt = elim (cases_lt i (length ms)) [
            | inl less ↦ subst (λ (u : Made). ExplainsEnd h n (t + i + 1) u.script u.ended) (sym (get_or_append_left ms (one ∷ []) no_made i less)) (leads.made n ms made_now i less)
            | inr more ↦
                let last : i ≡ length ms = omega (arith, lt, more, length-append ms (one ∷ [])) in
                let same : e ≡ record { caller = n; ticket = t + i + 1; script = next_script y; reply = e.reply } =
                let ticket : e.ticket ≡ t + i + 1 = omega (arith, at, last) in
                λ j. record { caller = mine j; ticket = ticket j; script = is j; reply = e.reply } in
                subst (λ (u : Made). ExplainsEnd h n (t + i + 1) u.script u.ended) (sym (ap (λ (q : ℕ). get_or all q no_made) last ∙ at_end)) (p, within, here ∙ same)
          ]

          has_it : (g : HistoryEntry) → IsOneOf t ms (HasOpenOf k n) g → IsOneOf t all NoneOpen g
          has_it g (inl (i, lt, ticket, script)) = inl (i, omega (arith, lt, length-append ms (one ∷ [])), ticket, script ∙ ap (λ (u : Made). u.script) (sym (get_or_append_left ms (one ∷ []) no_made i lt)))
          has_it g (inr (ticket, opened)) = inl (length ms, omega (arith, length-append ms (one ∷ [])), ticket, (open_now g.script opened).1 ∙ ap (λ (u : Made). u.script) (sym at_end))

          none_lost : All (λ (m : Made). IsNotLost m.ended) all
          none_lost = All-push (λ (m : Made). IsNotLost m.ended) ms one has_worked.0.none_lost tt

          counts_it : Counts x z (calls_of n h)
          counts_it =
              let own = own_calls n t all h leads.order none_lost explains (λ i g lt own. has_it (get_or h i g) (leads.only n ms made_now i g lt own)) in
              subst (Counts x z) (sym (own ∙ replied_join ms (one ∷ []))) (counts_join x y z _ _ has_worked.0.counts (counts_one y z e.reply room settles.job (f.one e.reply holds)))

        was_finished : IsFinished n c d y z → Counts x z (calls_of n h)
        was_finished f = last (leads.last n low)
          where
            known : (e : HistoryEntry) → e.caller ≡ n → e.ticket ≡ saved_ticket d n → HoldsReply d n e.reply → (p : ℕ) → p < length h → get_or h p no_history_entry ≡ e → IsOneOf t ms (HasOpenOf k n) e → Counts x z (calls_of n h)
            known e mine at holds p within here (inl (i, lt, ticket, script)) = absurd (omega (arith, lt, ticket, at, f.ticket, whole, now_tickets))
            known e mine at holds p within here (inr (ticket, opened)) = counts_it f e mine holds p within here ticket (open_now e.script opened).1

            last : TellsLastOf k d h n → Counts x z (calls_of n h)
            last (inl same) = absurd (omega (arith, same, f.ticket, now_tickets))
            last (inr (e, found, mine, at, holds)) =
                known e mine at holds found.0 found.1 found.2
                (subst (IsOneOf t ms (HasOpenOf k n)) found.2 (leads.only n ms made_now found.0 no_history_entry found.1 (ap (λ (g : HistoryEntry). g.caller) found.2 ∙ mine)))

      -- the clerk's calls in the history are those that it has counted
      pub goes_on : Counts x z (calls_of n h)
      goes_on = by_end y.end refl settles.counts
        where
          by_end : (end : Option RunError) → y.end ≡ end → SettlesEnd n c d y z end → Counts x z (calls_of n h)
          by_end None is one = plain (λ stopped. subst IsStopped is stopped) one.0
          by_end (Some (Stopped asked)) is one =
              stopped_in one (subst IsStopped (sym is) tt) (has_worked.0.whole (subst IsNotSpent (sym is) tt)) (has_worked.0.left (subst IsEarly (sym is) tt))
            where
              stopped_in : IsPending n c d y z ⊎ IsFinished n c d y z → IsStopped y.end → y.answered ≡ length ms → counted y < vec_len y.job → Counts x z (calls_of n h)
              stopped_in (inl p) stopped whole room = was_pending stopped whole room p
              stopped_in (inr f) stopped whole room = was_finished stopped whole room f
          by_end (Some (NoneLeft seq)) is one = plain (λ stopped. subst IsStopped is stopped) one.0
          by_end (Some InCall) is one = plain (λ stopped. subst IsStopped is stopped) one.0
          by_end (Some NoCall) is one = plain (λ stopped. subst IsStopped is stopped) one.0
          by_end (Some NoTicket) is one = plain (λ stopped. subst IsStopped is stopped) one.0

    -- ---- why it has made no more

    counted_today : counted y ≡ counted x + y.answered
    counted_today = omega (arith, has_worked.0.counts.made, has_worked.0.counts.aborted, all_counted (replied_in ms), has_worked.0.answered)

    abbrev Left : Option RunError → Type 0
    Left end = (one_if z.pending ≤ open_in end) × (counted z + one_if z.pending ≡ counted x + z.answered + open_in end)

    left_plain : CountsNone y z → z.pending ≡ y.pending → Left None
    left_plain none same =
        let no : one_if z.pending ≡ 0 = ap one_if (same ∙ has_worked.0.pending) in
        (omega (arith, no), omega (arith, no, none.0, none.1, counted_today, settles.answered))

    left : (end : Option RunError) → SettlesEnd n c d y z end → Left end
    left None one = left_plain one.0 one.1
    left (Some (Stopped asked)) (inl p) =
        let yes : one_if z.pending ≡ 1 = ap one_if p.pending in
        (omega (arith, yes), omega (arith, yes, p.none.0, p.none.1, counted_today, settles.answered))
    left (Some (Stopped asked)) (inr f) =
        let no : one_if z.pending ≡ 0 = ap one_if (f.pending ∙ has_worked.0.pending) in
        (omega (arith, no), omega (arith, no, f.more, counted_today, settles.answered))
    left (Some (NoneLeft seq)) one = left_plain one.0 one.1
    left (Some InCall) one = left_plain one.0 one.1
    left (Some NoCall) one = left_plain one.0 one.1
    left (Some NoTicket) one = left_plain one.0 one.1

    through : z.end ≡ None → counted z ≡ vec_len z.job
    through ended =
        let none : y.end ≡ None = sym settles.end ∙ ended in
        let one = subst (SettlesEnd n c d y z) none settles.counts in
        omega (arith, one.0.0, one.0.1, has_worked.1 none, ap vec_len settles.job)

    pub has_ended : HasEnded c n x z
    has_ended =
        let counts = left y.end settles.counts in
        record {
          through = through;
          cause = subst (HasCause x.steps (saved_ticket c n) z.answered) (sym settles.end)
              (subst (λ (k : ℕ × ℕ). HasCause x.steps k.0 k.1 y.end) (λ i. (left_tickets i, sym settles.answered i)) has_worked.0.cause);
          pending = subst (λ (o : Option RunError). one_if z.pending ≤ open_in o) (sym settles.end) counts.0;
          counts = subst (λ (o : Option RunError). counted z + one_if z.pending ≡ counted x + z.answered + open_in o) (sym settles.end) counts.1;
        }
