-- What a closed row of scripts holds: one serial history of scripts on the plain store.
use Rattle.std.specs.Prelude.{◌≡◌, ℕ, ◌+◌, ◌<◌, List, map, false}
use Rattle.std.specs.List.{All, AllByRecursion as Each}
use Rattle.of_recover.specs.Recovered.{recovered_words}
use Rattle.of_script.specs.declared.instr.Instr.{Instr}
use Rattle.of_script.specs.Language.{IsScript, instr_word}
use Rattle.of_store.specs.Store.{Store}
use Rattle.of_eval.specs.declared.scripts.Scripts.{Scripts}
use Rattle.of_eval.specs.Scripts.{scripts_data_cells, LawfulCells, scripts_meaning}
use Rattle.of_core.specs.Table.{Setup, setup_of}
use Rattle.of_core.specs.TableMoment.{TableStart}
use Rattle.of_core.specs.Events.{Event}
use Rattle.of_core.specs.Linear.{Sequences}
use Rattle.of_core.specs.Starts.{IsDurable, IsStartRow, start_from_durable}
use Rattle.of_row.specs.Views.{KnownCaller, View}
use Rattle.of_row.specs.Rule.{ViewMeetsRule, done_before}
use Rattle.of_cells.specs.Times.{EndBefore}
use Rattle.of_cells.specs.Moments.{numbers_found}
use Rattle.of_cells.specs.Saving.{HasOpenOperation, own_ticket}
use Rattle.of_cells.specs.Serving.{KeepsSo}
use Rattle.of_memory.specs.History.{HistoryEntry, Made, IsSerial, store_after, StandsInOrder, EntriesRiseBySequence, ExplainsAll, HaveOwnSequences, HasOnly, IsUpTo, ComeInOrder}
use Rattle.of_memory.specs.Calls.{RunsScripts, AreMade}
use Rattle.of_memory.specs.Rows.{StandFor, StandsAt, HoldsLastReplies}
use Rattle.of_memory.specs.Saving.{TellLast}

-- what the machines on a table for these scripts, with this limit, have in common
abbrev pub setup_with : Scripts → (limit : ℕ) → Setup
setup_with w limit = setup_of w.callers (scripts_data_cells w) limit (scripts_meaning w)

-- the view keeps the caller of each number, and this caller has made only calls of scripts
abbrev pub KeepScripts : Setup → View → Type 0
KeepScripts S v = (n : ℕ) → n < S.callers → KeepsSo n RunsScripts v.kept

-- the history explains how each ended call of the kept caller has ended
abbrev pub ExplainsKept : Setup → TableStart → List HistoryEntry → KnownCaller → Type 0
ExplainsKept S B h x =
    (ms : List Made) → AreMade x.ended ms
    → ExplainsAll h x.machine.caller (done_before S B x.machine.caller) ms

-- each answered call of the kept caller that is in the history has there the sequence that its
-- answer names, and is announced there exactly if its answer says so
abbrev pub HaveKeptSequences : Setup → TableStart → List HistoryEntry → Sequences → KnownCaller
    → Type 0
HaveKeptSequences S B h q x =
    (ms : List Made) → AreMade x.ended ms
    → HaveOwnSequences h q x.machine.caller (done_before S B x.machine.caller) ms

-- the kept caller has an open call of this script
abbrev pub HasOpenScript : KnownCaller → List Instr → Type 0
HasOpenScript x script =
    IsScript script × HasOpenOperation x (map instr_word script)

-- each entry of the history that is a call of the kept caller's number is one of the caller's ended
-- calls, or its open call
abbrev pub HasOnlyKept : Setup → TableStart → List HistoryEntry → KnownCaller → Type 0
HasOnlyKept S B h x =
    (ms : List Made) → AreMade x.ended ms
    → HasOnly h x.machine.caller (done_before S B x.machine.caller) ms (HasOpenScript x)

-- if, by these events, calls of a caller had ended before other calls began, they come before those
-- other calls in the history
abbrev pub RespectsEvents : Setup → TableStart → List Event → List HistoryEntry → Type 0
RespectsEvents S B es h =
    (n x k y : ℕ) → EndBefore S B es n x k y
    → ComeInOrder h n (done_before S B n + x) k (done_before S B k + y)

-- A serial history leads from the store to the one that data cells with these numbers stand for.
-- Each call is of one of the callers, and is in the history at most once; the calls of each caller
-- are in the order in which it made them. The history is ordered by sequence. Each caller had made
-- `made` calls before; the cells show its last call, and its later calls only read.
pub record HistoryLeads (w : Scripts) (caller_count : ℕ) (made : ℕ → ℕ) (s : Store) (now : List ℕ)
    (h : List HistoryEntry) (q : Sequences) : Type 0 where
  pub serial : IsSerial s h
  pub ends : StandFor w now (store_after s h)
  pub order : StandsInOrder h
  pub by_seq : EntriesRiseBySequence h q
  pub callers : All (λ (e : HistoryEntry). e.caller < caller_count) h
  pub last : (n : ℕ) → n < caller_count → TellLast now h n (made n)
  pub upto : (n : ℕ) → n < caller_count → IsUpTo h n (own_ticket now n)

-- The history explains how the calls of each caller that the view keeps have ended, and gives each
-- answered call the sequence that its answer names. All other calls of these callers in the history
-- are open. The history respects real time, as far as the view knows it.
pub record ExplainsView (S : Setup) (B : TableStart) (h : List HistoryEntry) (q : Sequences)
    (v : View) : Type 0 where
  pub calls : Each (ExplainsKept S B h) v.kept
  pub own_seq : Each (HaveKeptSequences S B h q) v.kept
  pub only : Each (HasOnlyKept S B h) v.kept
  pub time : RespectsEvents S B v.past h

-- A serial history leads from the store `s` to what recovery finds in the durable words `words`. It
-- explains what each of the views knows (`ExplainsView`); `OfViews` says which views these are.
pub record HistoryFound (w : Scripts) (limit : ℕ) (B : TableStart) (s : Store) (words : List ℕ)
    (OfViews : (View → Type 0) → Type 0) : Type 0 where
  pub history : List HistoryEntry
  pub sequences : Sequences
  pub leads : HistoryLeads w w.callers (done_before (setup_with w limit) B) s
      (numbers_found w.callers (scripts_data_cells w) words) history sequences
  pub views : OfViews (ExplainsView (setup_with w limit) B history sequences)

-- Suppose that words and a view meet the rule of a row of these scripts, that the view isn't spent,
-- and that it keeps the caller of each number, with calls of scripts alone. Then a table may start
-- from what recovery finds in the durable words. From the store that the row has started with, a
-- serial history leads to what is found, and explains what the view knows. If the row's start held
-- a reply to the last call of each caller, what is found does too.
abbrev pub HoldsHistory : Scripts → (limit : ℕ) → Type 0
HoldsHistory w limit =
    let S : Setup = setup_with w limit in
    (B : TableStart) (ws : List ℕ) (v : View) → ViewMeetsRule S (LawfulCells w) B ws v
    → v.spent ≡ false
    → KeepScripts S v → (row : List ℕ) → IsDurable S ws row →
    let found : List ℕ = recovered_words w.callers (scripts_data_cells w) row in
    let C : TableStart = start_from_durable w.callers (scripts_data_cells w) found in
    IsStartRow S (LawfulCells w) found
    × (HoldsLastReplies w B → HoldsLastReplies w C)
    × ((s : Store) → StandsAt w B s → HistoryFound w limit B s row (λ P. P v))
