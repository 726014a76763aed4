-- A serial history of scripts on the plain store.
use Rattle.std.specs.Prelude.{◌≡◌, ℕ, ◌+◌, ◌<◌, ◌≤◌, ◌⊎◌, IsTrue, Bool, true, List, [], ◌∷◌, length}
use Rattle.std.specs.List.{All}
use Rattle.std.proofs.Common.{get_or}
use Rattle.of_script.specs.declared.instr.Instr.{Instr}
use Rattle.of_script.specs.Language.{reads_only}
use Rattle.of_store.specs.Store.{Store, Reply, Answered, run}
use Rattle.of_core.specs.Linear.{Sequences}

-- a call in the history: its caller, its ticket (the number that it has among its caller's calls),
-- its script and its reply
pub record HistoryEntry : Type 0 where
  pub caller : ℕ
  pub ticket : ℕ
  pub script : List Instr
  pub reply : Reply

abbrev pub no_history_entry : HistoryEntry
no_history_entry = record { caller = 0; ticket = 0; script = []; reply = Answered [] }

-- the scripts, run one after the other from this store, give the replies that the entries have
abbrev pub IsSerial : Store → List HistoryEntry → Type 0
IsSerial s [] = Unit {0}
IsSerial s (e ∷ es) = ((run s e.script).1 ≡ e.reply) × IsSerial (run s e.script).0 es

-- the store after all of these scripts, run one after the other
abbrev pub store_after : Store → List HistoryEntry → Store
store_after s [] = s
store_after s (e ∷ es) = store_after (run s e.script).0 es

-- if both entries are of one caller, the second has the higher ticket
abbrev pub IsLater : HistoryEntry → HistoryEntry → Type 0
IsLater e f = f.caller ≡ e.caller → e.ticket < f.ticket

-- each call is in the history at most once, and the calls of each caller are in the order in which
-- it made them
abbrev pub StandsInOrder : List HistoryEntry → Type 0
StandsInOrder h =
    (p q : ℕ) → p < q → q < length h
    → IsLater (get_or h p no_history_entry) (get_or h q no_history_entry)

-- How a call has ended. It was answered with a reply, at a sequence, after this many steps,
-- announced or not; or it was spent, since the sequence had come to the limit; or it was lost with
-- its machine, at a sequence.
pub data End : Type 0 where
  Replied : Reply → (seq steps : ℕ) → (announced : Bool) → End
  Spent : (seq : ℕ) → End
  Lost : (seq : ℕ) → End

-- an ended call of a caller: its script, and how it ended
pub record Made : Type 0 where
  pub script : List Instr
  pub ended : End

abbrev pub no_made : Made
no_made = record { script = []; ended = Spent 0 }

-- the history has this entry
abbrev pub HasEntry : List HistoryEntry → HistoryEntry → Type 0
HasEntry h e = (p : ℕ) × (p < length h) × (get_or h p no_history_entry ≡ e)

-- The history agrees with how this call ended: if the call was answered, the history has it, with
-- its reply; if it was spent, the history does not have it. A lost call may be there or not.
abbrev pub ExplainsEnd : List HistoryEntry → (caller ticket : ℕ) → List Instr → End → Type 0
ExplainsEnd h c t script (Replied r seq steps announced) =
    HasEntry h (record { caller = c; ticket = t; script = script; reply = r })
ExplainsEnd h c t script (Spent seq) = All (λ (e : HistoryEntry). e.caller ≡ c → e.ticket ≡ t → ⊥) h
ExplainsEnd h c t script (Lost seq) = Unit {0}

-- the history explains how each call in this list of a caller's ended calls has ended; the first
-- call of the list has the ticket n + 1
abbrev pub ExplainsAll : List HistoryEntry → (caller n : ℕ) → List Made → Type 0
ExplainsAll h c n ms =
    (y : ℕ) → y < length ms
    → ExplainsEnd h c (n + y + 1) (get_or ms y no_made).script (get_or ms y no_made).ended

-- the history is ordered by these sequences: they do not fall, and of the calls of one sequence the
-- announced ones come first, by caller
pub record EntriesRiseBySequence (h : List HistoryEntry) (s : Sequences) : Type 0 where
  pub rising : (p q : ℕ) → p < q → q < length h → s.seq p ≤ s.seq q
  pub announced_first : (p q : ℕ) → p < q → q < length h → s.seq p ≡ s.seq q
      → s.announced q ≡ true → s.announced p ≡ true
  pub by_caller : (p q : ℕ) → p < q → q < length h → s.seq p ≡ s.seq q → s.announced q ≡ true
      → (get_or h p no_history_entry).caller < (get_or h q no_history_entry).caller

-- if a call with this end was answered and is in the history, it has there the sequence that its
-- end names, and is announced there exactly if its end says so
abbrev pub HasSequenceOfEnd : List HistoryEntry → Sequences → (caller ticket : ℕ) → End → Type 0
HasSequenceOfEnd h s c t (Replied r seq steps announced) =
    (p : ℕ) → p < length h → (get_or h p no_history_entry).caller ≡ c
    → (get_or h p no_history_entry).ticket ≡ t → (s.seq p ≡ seq) × (s.announced p ≡ announced)
HasSequenceOfEnd h s c t (Spent seq) = Unit {0}
HasSequenceOfEnd h s c t (Lost seq) = Unit {0}

-- If a call in this list of a caller's ended calls was answered and is in the history, it has there
-- the sequence that its answer names, and is announced there exactly if the answer says so. The
-- first call of the list has the ticket n + 1.
abbrev pub HaveOwnSequences : List HistoryEntry → Sequences → (caller n : ℕ) → List Made → Type 0
HaveOwnSequences h s c n ms =
    (y : ℕ) → y < length ms → HasSequenceOfEnd h s c (n + y + 1) (get_or ms y no_made).ended

-- the entry is a call of this list of ended calls, whose first call has the ticket n + 1; or it is
-- an open call, with the ticket after the last of the list
abbrev pub IsOneOf : (n : ℕ) → List Made → (IsOpenCall : List Instr → Type 0) → HistoryEntry
    → Type 0
IsOneOf n ms IsOpenCall e =
    ((y : ℕ) × (y < length ms) × (e.ticket ≡ n + y + 1) × (e.script ≡ (get_or ms y no_made).script))
    ⊎ ((e.ticket ≡ n + length ms + 1) × IsOpenCall e.script)

-- each entry of the caller is one of these ended calls or its open call
abbrev pub HasOnly : List HistoryEntry → (caller n : ℕ) → List Made
    → (IsOpenCall : List Instr → Type 0) → Type 0
HasOnly h c n ms IsOpenCall = All (λ (e : HistoryEntry). e.caller ≡ c → IsOneOf n ms IsOpenCall e) h

-- the script has only instructions that read
abbrev pub ScriptOnlyReads : List Instr → Type 0
ScriptOnlyReads script = All (λ (i : Instr). IsTrue (reads_only i)) script

-- in the history, no call of the caller that may write has a ticket above this one
abbrev pub IsUpTo : List HistoryEntry → (caller ticket : ℕ) → Type 0
IsUpTo h c t =
    All (λ (e : HistoryEntry). e.caller ≡ c → (ScriptOnlyReads e.script → ⊥) → e.ticket ≤ t) h

-- the entry is of this caller, and has this ticket or a lower one
abbrev pub IsUpToTicket : (caller ticket : ℕ) → HistoryEntry → Type 0
IsUpToTicket n t e = (e.caller ≡ n) × (e.ticket ≤ t)

-- the entry is of this caller, and has a higher ticket than this
abbrev pub IsAboveTicket : (caller ticket : ℕ) → HistoryEntry → Type 0
IsAboveTicket k u e = (e.caller ≡ k) × (u < e.ticket)

-- the calls of caller n up to ticket t come before those of caller k above ticket u
abbrev pub ComeInOrder : List HistoryEntry → (n t k u : ℕ) → Type 0
ComeInOrder h n t k u =
    (p q : ℕ) → p < q → q < length h → IsUpToTicket n t (get_or h q no_history_entry)
    → IsAboveTicket k u (get_or h p no_history_entry) → ⊥
