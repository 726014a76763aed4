-- A serial history of operations on a list of cells. An entry is a call as it was run: its caller,
-- its ticket (the number that it has among its caller's calls), its words and its reply.
use Rattle.std.specs.Prelude.{◌≡◌, ℕ, ◌+◌, ◌<◌, ◌≤◌, ◌⊎◌, false, List, length}
use Rattle.std.specs.List.{All}
use Rattle.std.proofs.Common.{get_or}
use Rattle.of_mem.specs.Meaning.{Meaning}
use Rattle.of_mem.specs.declared.work.RawReply.{RawReply}
use Rattle.of_mem.specs.declared.work.TheConstants.{MOST_INSTRS}
use Rattle.of_core.specs.declared.place.Outcome.{Outcome}
use Rattle.of_core.specs.declared.place.Outcome.TheVariants.{Answered, Spent, Lost}
use Rattle.of_core.specs.Machine.{Call, no_call}
use Rattle.of_core.specs.Claim.{IsNewerCall}
use Rattle.of_core.specs.Linear.{Sequences, HasOwnSequence}
use Rattle.of_core.specs.History.{CallsHaveReplies, numbers_after_calls}
use Rattle.of_row.specs.Views.{EndedCall, no_ended}

-- the operations, run one after the other from these cells, give the replies that the calls have
abbrev pub IsSerial : Meaning → (cells : List ℕ) → List Call → Type 0
IsSerial M cells h = CallsHaveReplies M cells h

-- the cells after all of these calls
abbrev pub cells_after : Meaning → (cells : List ℕ) → List Call → List ℕ
cells_after M cells h = numbers_after_calls M cells h

-- each call is in the history at most once, and the calls of each caller are in the order in which
-- it made them
abbrev pub StandsInOrder : List Call → Type 0
StandsInOrder h =
    (p q : ℕ) → p < q → q < length h → IsNewerCall (get_or h p no_call) (get_or h q no_call)

-- the two replies have one shape and the same numbers
abbrev pub IsSameReply : RawReply → RawReply → Type 0
IsSameReply r q =
    (r.shape ≡ q.shape) × ((y : ℕ) → y < MOST_INSTRS → get_or r.values y 0 ≡ get_or q.values y 0)

-- the reply is what the operation gives on cells to which some serial history leads from these
-- cells
pub record IsMeant (M : Meaning) (cells op : List ℕ) (raw : RawReply) : Type 0 where
  pub history : List Call
  pub serial : IsSerial M cells history
  pub reply : IsSameReply raw (M.reply (cells_after M cells history) op)

-- the history has this call, with this reply
pub record HasEntry (h : List Call) (caller ticket : ℕ) (op : List ℕ) (r : RawReply) : Type 0 where
  pub place : ℕ
  pub among : place < length h
  pub caller_is : (get_or h place no_call).caller ≡ caller
  pub ticket_is : (get_or h place no_call).ticket ≡ ticket
  pub words : (get_or h place no_call).op ≡ op
  pub reply : IsSameReply r (get_or h place no_call).raw

-- The history agrees with how this call ended: if the call was answered, the history has it, with
-- its reply; if it was spent, the history does not have it. A lost call may be there or not.
abbrev pub ExplainsEnd : List Call → (caller ticket : ℕ) → (op : List ℕ) → Outcome → Type 0
ExplainsEnd h c t op (Answered seq announced raw steps) = HasEntry h c t op raw
ExplainsEnd h c t op (Spent seq) = All (λ (e : Call). e.caller ≡ c → e.ticket ≡ t → ⊥) h
ExplainsEnd h c t op (Lost seq) = Unit {0}

-- the history explains how each call in this list of a caller's ended calls has ended; the first
-- call of the list has the ticket n + 1
abbrev pub ExplainsAll : List Call → (caller n : ℕ) → List EndedCall → Type 0
ExplainsAll h c n es =
    (y : ℕ) → y < length es
    → ExplainsEnd h c (n + y + 1) (get_or es y no_ended).op (get_or es y no_ended).outcome

-- If a call in this list of a caller's ended calls was answered and is in the history, it has there
-- the sequence that its answer names, and is announced there exactly if the answer says so. The
-- first call of the list has the ticket n + 1.
abbrev pub HaveOwnSequences : List Call → Sequences → (caller n : ℕ) → List EndedCall → Type 0
HaveOwnSequences h s c n es =
    (y : ℕ) → y < length es → HasOwnSequence h s c (n + y + 1) (get_or es y no_ended).outcome

-- the entry is a call of this list of ended calls, whose first call has the ticket n + 1; or it is
-- an open call, with the ticket after the last of the list
abbrev pub IsOneOf : (n : ℕ) → List EndedCall → (IsOpenCall : List ℕ → Type 0) → Call → Type 0
IsOneOf n es IsOpenCall e =
    ((y : ℕ) × (y < length es) × (e.ticket ≡ n + y + 1) × (e.op ≡ (get_or es y no_ended).op))
    ⊎ ((e.ticket ≡ n + length es + 1) × IsOpenCall e.op)

-- each entry of the caller in the history is one of these ended calls, or the caller's open call
abbrev pub HasOnly : List Call → (caller n : ℕ) → List EndedCall → (List ℕ → Type 0) → Type 0
HasOnly h c n es IsOpenCall = All (λ (e : Call). e.caller ≡ c → IsOneOf n es IsOpenCall e) h

-- in the history, no call of the caller that may write has a ticket above this one
abbrev pub IsUpTo : Meaning → List Call → (caller ticket : ℕ) → Type 0
IsUpTo M h c t = All (λ (e : Call). e.caller ≡ c → M.reads_only e.op ≡ false → e.ticket ≤ t) h

-- the call is one of this caller, with this ticket or a lower one
abbrev pub IsUpToTicket : (caller ticket : ℕ) → Call → Type 0
IsUpToTicket n t e = (e.caller ≡ n) × (e.ticket ≤ t)

-- the call is one of this caller, with a higher ticket than this
abbrev pub IsAboveTicket : (caller ticket : ℕ) → Call → Type 0
IsAboveTicket k u e = (e.caller ≡ k) × (u < e.ticket)

-- the calls of caller n up to ticket t come before those of caller k above ticket u
abbrev pub ComeInOrder : List Call → (n t k u : ℕ) → Type 0
ComeInOrder h n t k u =
    (p q : ℕ) → p < q → q < length h → IsUpToTicket n t (get_or h q no_call)
    → IsAboveTicket k u (get_or h p no_call) → ⊥
