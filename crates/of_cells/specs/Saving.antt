-- What a closed memory of cells leaves.
use Rattle.std.specs.Prelude.{◌≡◌, ℕ, ◌+◌, ◌*◌, ◌<◌, ◌≤◌, ◌⊎◌, true, List, length, map}
use Rattle.std.specs.List.{All, AllByRecursion as Each}
use Rattle.std.proofs.Common.{get_or}
use Rattle.of_cell.specs.Words.{payload_of}
use Rattle.of_cell.specs.declared.word.TheConstants.{GREATEST_LIMIT}
use Rattle.of_mem.specs.Meaning.{Meaning, is_marked}
use Rattle.of_mem.specs.Places.{ticket_cell_at, shape_at, reply_at}
use Rattle.of_mem.specs.declared.work.RawReply.{RawReply}
use Rattle.of_mem.specs.declared.work.TheConstants.{MOST_INSTRS}
use Rattle.of_core.specs.Table.{Setup}
use Rattle.of_core.specs.TableMoment.{TableStart}
use Rattle.of_core.specs.Machine.{Call, no_call, IsOpen}
use Rattle.of_core.specs.Starts.{start_on}
use Rattle.of_row.specs.declared.row.Row.{Row}
use Rattle.of_core.specs.Events.{Event}
use Rattle.of_core.specs.Linear.{Sequences, StandsBySequence}
use Rattle.of_row.specs.Rows.{key_of, setup_at, row_start, MayStartFrom}
use Rattle.of_row.specs.Rule.{done_before}
use Rattle.of_row.specs.Views.{KnownCaller, View}
use Rattle.of_cells.specs.declared.saved.SavedCells.{SavedCells}
use Rattle.of_cells.specs.History.{IsSerial, cells_after, StandsInOrder, ExplainsAll, HaveOwnSequences, HasOnly, IsUpTo, ComeInOrder}
use Rattle.of_cells.specs.Times.{EndBefore}
use Rattle.of_cells.specs.Serving.{cells_at_start, made_before}

-- the work whose cells these are
abbrev pub saved_work : {W : Type 0} → SavedCells W → W
saved_work d = d.work

-- how many callers the saved memory has
abbrev pub saved_callers : {W : Type 0} → SavedCells W → ℕ
saved_callers d = d.shape.callers

-- the last sequence that a commit may have, in a memory that goes on from what is saved
abbrev pub saved_limit : {W : Type 0} → SavedCells W → ℕ
saved_limit d = d.limit

-- the numbers of the saved data cells
abbrev pub saved_cells : {W : Type 0} → SavedCells W → List ℕ
saved_cells d = map payload_of (start_on d.shape d.row.items).cells

-- the durable words that are saved, recovered
abbrev pub saved_words : {W : Type 0} → SavedCells W → List ℕ
saved_words d = d.row.items

-- the ticket of caller n, if the data cells have these numbers: the number of the caller's last
-- announced call that was run
abbrev pub own_ticket : (cells : List ℕ) → (n : ℕ) → ℕ
own_ticket cells n = get_or cells (ticket_cell_at MOST_INSTRS n) 0

-- the ticket of caller n in what is saved
abbrev pub saved_ticket : {W : Type 0} → SavedCells W → ℕ → ℕ
saved_ticket d n = own_ticket (saved_cells d) n

-- the own cells of caller n hold this reply: its shape, and its numbers
pub record HoldReply (cells : List ℕ) (n : ℕ) (raw : RawReply) : Type 0 where
  pub shape : get_or cells (shape_at MOST_INSTRS n) 0 ≡ raw.shape
  pub numbers : (y : ℕ) → y < MOST_INSTRS → is_marked raw.shape y ≡ true
      → get_or cells (reply_at MOST_INSTRS n y) 0 ≡ get_or raw.values y 0

-- this is the reply that the saved cells of caller n hold
pub record IsReplyIn {W : Type 0} (d : SavedCells W) (n : ℕ) (raw : RawReply) : Type 0 where
  pub shape : raw.shape ≡ get_or (saved_cells d) (shape_at MOST_INSTRS n) 0
  pub long : length raw.values ≡ MOST_INSTRS
  pub numbers : (y : ℕ) → y < MOST_INSTRS
      → get_or raw.values y 0 ≡ get_or (saved_cells d) (reply_at MOST_INSTRS n y) 0

-- the last sequence that was committed in what is saved
abbrev pub saved_seq : {W : Type 0} → SavedCells W → ℕ
saved_seq d = (start_on d.shape d.row.items).seq

-- `now` has the same work, the same number of callers and the same numbers in the data cells as
-- `before`
pub record SavesSame {W : Type 0} (before now : SavedCells W) : Type 0 where
  pub work : saved_work now ≡ saved_work before
  pub callers : saved_callers now ≡ saved_callers before
  pub cells : saved_cells now ≡ saved_cells before

-- the limit is out of its range, or below the last sequence that was committed in what is saved
abbrev pub IsNoLimitOf : {W : Type 0} → SavedCells W → (limit : ℕ) → Type 0
IsNoLimitOf d limit = (limit ≡ 0) ⊎ ((GREATEST_LIMIT < limit) ⊎ (limit < saved_seq d))

-- a memory may go on from what is saved: its sizes are those of the work, its limit is not too
-- great, and a table may start from its words
pub record IsSavedCells {W : Type 0} (many size : W → ℕ) (meaning : W → Meaning)
    (lawful : W → List ℕ → Type 0) (d : SavedCells W) : Type 0 where
  pub callers : d.shape.callers ≡ many d.work
  pub instrs : d.shape.instrs ≡ MOST_INSTRS
  pub cells : d.shape.cells ≡ size d.work
  pub few_limit : d.limit ≤ GREATEST_LIMIT
  pub row : MayStartFrom meaning lawful d.shape d.limit d.work d.row.items

-- the saved data cells are lawful for their work
abbrev pub HoldsLawful : {W : Type 0} → (W → List ℕ → Type 0) → SavedCells W → Type 0
HoldsLawful lawful d = lawful (saved_work d) (saved_cells d)

-- data cells have these numbers, apart from the cells that are callers' own
abbrev pub HoldAfterOwn : (caller_count : ℕ) → (cells numbers : List ℕ) → Type 0
HoldAfterOwn k cells numbers =
    (a : ℕ) → k * (MOST_INSTRS + 2) ≤ a → a < length cells → get_or cells a 0 ≡ get_or numbers a 0

-- the saved data cells have these numbers, apart from the cells that are callers' own
abbrev pub SavedHolds : {W : Type 0} → SavedCells W → List ℕ → Type 0
SavedHolds d numbers = HoldAfterOwn (saved_callers d) (saved_cells d) numbers

-- Caller n had made `before` calls. The data cells show the caller's last call since then: either
-- there was none; or the history has a call of the caller with the ticket that is in the cells, and
-- the cells hold its reply.
abbrev pub TellLast : (cells : List ℕ) → List Call → (n before : ℕ) → Type 0
TellLast xs h n before =
    (own_ticket xs n ≡ before) ⊎ ((p : ℕ) × (p < length h) × ((get_or h p no_call).caller ≡ n)
    × ((get_or h p no_call).ticket ≡ own_ticket xs n) × HoldReply xs n (get_or h p no_call).raw)

-- the history explains how each ended call of the kept caller has ended
abbrev pub ExplainsKept : Setup → TableStart → List Call → KnownCaller → Type 0
ExplainsKept S B h x =
    ExplainsAll h x.machine.caller (done_before S B x.machine.caller) x.ended

-- each answered call of the kept caller that is in the history has there the sequence that its
-- answer names, and is announced there exactly if its answer says so
abbrev pub HaveKeptSequences : Setup → TableStart → List Call → Sequences → KnownCaller → Type 0
HaveKeptSequences S B h q x =
    HaveOwnSequences h q x.machine.caller (done_before S B x.machine.caller) x.ended

-- the kept caller has an open call of this operation
abbrev pub HasOpenOperation : KnownCaller → (op : List ℕ) → Type 0
HasOpenOperation x op = IsOpen x.machine.place × (x.machine.op ≡ op)

-- each entry of the history that is a call of the kept caller's number is one of the caller's ended
-- calls, or its open call
abbrev pub HasOnlyKept : Setup → TableStart → List Call → KnownCaller → Type 0
HasOnlyKept S B h x =
    HasOnly h x.machine.caller (done_before S B x.machine.caller) x.ended (HasOpenOperation x)

-- if, by these events, calls of a caller had ended before other calls began, they come before those
-- other calls in the history
abbrev pub RespectsEvents : Setup → TableStart → List Event → List Call → Type 0
RespectsEvents S B es h =
    (n x k y : ℕ) → EndBefore S B es n x k y
    → ComeInOrder h n (done_before S B n + x) k (done_before S B k + y)

-- A serial history leads from data cells with the numbers `before` to data cells with the numbers
-- `now`, apart from the callers' own cells. Each call is of one of the callers, and is in the
-- history at most once, with a ticket above the number of calls that its caller had made. The calls
-- of each caller are in the order in which the caller made them. The history is ordered by
-- sequence. The cells show the last call of each caller; later calls of the caller only read.
pub record HistoryLeads (M : Meaning) (caller_count : ℕ) (made : ℕ → ℕ) (before now : List ℕ)
    (h : List Call) (q : Sequences) : Type 0 where
  pub serial : IsSerial M before h
  pub ends : HoldAfterOwn caller_count now (cells_after M before h)
  pub order : StandsInOrder h
  pub by_seq : StandsBySequence h q
  pub callers : All (λ (e : Call). e.caller < caller_count) h
  pub later : All (λ (e : Call). made e.caller < e.ticket) h
  pub last : (n : ℕ) → n < caller_count → TellLast now h n (made n)
  pub upto : (n : ℕ) → n < caller_count → IsUpTo M h n (own_ticket now n)

-- The history explains how the calls of each caller that the view keeps have ended, and gives each
-- answered call the sequence that its answer names. All other calls of these callers in the history
-- are open. The history respects real time, as far as the view knows it.
pub record ExplainsView (S : Setup) (B : TableStart) (h : List Call) (q : Sequences) (v : View)
    : Type 0 where
  pub calls : Each (ExplainsKept S B h) v.kept
  pub own_seq : Each (HaveKeptSequences S B h q) v.kept
  pub only : Each (HasOnlyKept S B h) v.kept
  pub time : RespectsEvents S B v.past h

-- A history of the calls that callers have made on a row leads to what is saved of the row, and
-- explains what the view knows (`ExplainsView`).
pub record SavesHistory {W : Type 0} (meaning : W → Meaning) (r : Row W) (v : View)
    (d : SavedCells W) : Type 0 where
  pub history : List Call
  pub sequences : Sequences
  pub leads : HistoryLeads (meaning (key_of r).work) (key_of r).callers (made_before meaning r)
      (cells_at_start meaning r) (saved_cells d) history sequences
  pub view : ExplainsView (setup_at meaning r) (row_start meaning r) history sequences v

-- the own cells of caller n have the same numbers as before
abbrev pub OwnCellsStay : (before now : List ℕ) → (n : ℕ) → Type 0
OwnCellsStay before now n =
    (a : ℕ) → ticket_cell_at MOST_INSTRS n ≤ a
    → a < ticket_cell_at MOST_INSTRS n + (MOST_INSTRS + 2) → get_or now a 0 ≡ get_or before a 0

-- if what is saved has no call of a caller since the row's start, the caller's own cells have the
-- same numbers as at the start
abbrev pub KeepsOwnCells : {W : Type 0} → (W → Meaning) → Row W → SavedCells W → Type 0
KeepsOwnCells meaning r d =
    (n : ℕ) → n < (key_of r).callers → saved_ticket d n ≡ made_before meaning r n
    → OwnCellsStay (cells_at_start meaning r) (saved_cells d) n
