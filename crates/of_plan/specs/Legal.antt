-- When a report is one history of a plan's scripts from a start.
use Rattle.std.specs.Prelude.{◌≡◌, ℕ, ◌+◌, ◌-◌, ◌≤◌, ◌<◌, ◌⊎◌, Bool, true, false, IsTrue, List, [], length, map, slice_index_or, All, Any, AllPairs}
use Rattle.std.specs.Bool.{MatchBool}
use Rattle.std.specs.List.{range_with_len}
use Rattle.of_script.specs.declared.instr.Instr.{Instr}
use Rattle.of_script.specs.Language.{reads_only}
use Rattle.of_store.specs.Store.{replies_in_order, last_store}
use Rattle.of_plan.specs.Plan.{Plan, scripts_of, bound_of}
use Rattle.of_plan.specs.Report.{Entry, EndState, done, stopped, spent, Line, Report, Start, entries_of, caller_line, finished_of}

-- the script of an entry
abbrev pub script_of_entry : Plan → Entry → List Instr
script_of_entry p e = slice_index_or (scripts_of p e.caller) e.index []

-- how many scripts a caller has to do from the start on
abbrev pub scripts_left : Plan → Start → ℕ → ℕ
scripts_left p s c = length (scripts_of p c) - finished_of s c

-- each entry is of a caller of the plan, and the entries of each caller are its scripts from the
-- first that isn't done, one after the other, each once
pub record StandInOrder (p : Plan) (s : Start) (r : Report) : Type 0 where
  pub of_callers : All (λ e. e.caller < p.callers) r.entries
  pub one_by_one : (c : ℕ) → c < p.callers
      → map (λ e. e.index) (entries_of r c)
      ≡ range_with_len (finished_of s c) (length (entries_of r c))
  pub of_scripts : (c : ℕ) → c < p.callers → length (entries_of r c) ≤ scripts_left p s c

-- A stopped caller may have one entry more than answered calls, for its open call. Any other caller
-- has as many entries as answered calls.
abbrev pub HasOpenCall : EndState → (answered entries : ℕ) → Type 0
HasOpenCall done answered entries = entries ≡ answered
HasOpenCall spent answered entries = entries ≡ answered
HasOpenCall stopped answered entries = (answered ≤ entries) × (entries ≤ answered + 1)

-- each caller has a line, with the number of its entries; at most one entry, that of an open call,
-- goes beyond its answered calls
pub record CountOpenCalls (p : Plan) (r : Report) : Type 0 where
  pub each_caller : length r.callers ≡ p.callers
  pub entries : (c : ℕ) → c < p.callers → (caller_line r c).entries ≡ length (entries_of r c)
  pub open_call : All (λ l. HasOpenCall l.state l.answered l.entries) r.callers

-- the order within a sequence: announced entries come before reads; announced ones are ordered by
-- caller, at most one each; reads by caller and index
abbrev pub StandsBeforeWithin : (announced_first announced_second : Bool) → Entry → Entry → Type 0
StandsBeforeWithin true true e f = e.caller < f.caller
StandsBeforeWithin true false e f = Unit {0}
StandsBeforeWithin false true e f = ⊥
StandsBeforeWithin false false e f =
    (e.caller < f.caller) ⊎ ((e.caller ≡ f.caller) × (e.index < f.index))

-- one entry comes before another: by sequence, and then within it
abbrev pub StandsBefore : Entry → Entry → Type 0
StandsBefore e f =
    (e.seq < f.seq) ⊎ ((e.seq ≡ f.seq) × StandsBeforeWithin e.announced f.announced e f)

-- an announced entry has a sequence above the start's; a read has one from the start's on, and its
-- script only reads
abbrev pub HasSequence : Plan → Start → Entry → Type 0
HasSequence p s e =
    MatchBool e.announced (s.seq < e.seq)
    ((s.seq ≤ e.seq) × All (λ i. IsTrue (reads_only i)) (script_of_entry p e))

-- The entries are ordered by sequence, and no sequence is above the report's, which is at least the
-- start's. Each sequence above the start's, up to the report's, has an announced entry.
pub record StandBySequence (p : Plan) (s : Start) (r : Report) : Type 0 where
  pub order : AllPairs StandsBefore r.entries
  pub sequences : All (λ e. HasSequence p s e × (e.seq ≤ r.seq)) r.entries
  pub from_start : s.seq ≤ r.seq
  pub none_left_out : (seq : ℕ) → s.seq < seq → seq ≤ r.seq
      → Any (λ e. IsTrue e.announced × (e.seq ≡ seq)) r.entries

-- the replies are those that the scripts of the entries give if they run one after the other from
-- the start's store
abbrev pub RepliesAreSerial : Plan → Start → Report → Type 0
RepliesAreSerial p s r =
    map (λ e. e.reply) r.entries ≡ replies_in_order s.store (map (script_of_entry p) r.entries)

-- the report's store is the one after the scripts of all entries have run one after the other
abbrev pub IsFinalStore : Plan → Start → Report → Type 0
IsFinalStore p s r = r.store ≡ last_store s.store (map (script_of_entry p) r.entries)

-- a caller is done if it has answered all scripts that were left to it, and stopped or spent if it
-- has answered fewer; if it is spent, the sequence is the limit
abbrev pub HasEndState : EndState → (answered scripts_left seq limit : ℕ) → Type 0
HasEndState done answered scripts_left seq limit = answered ≡ scripts_left
HasEndState stopped answered scripts_left seq limit = answered < scripts_left
HasEndState spent answered scripts_left seq limit = (answered < scripts_left) × (seq ≡ limit)

-- the longest answered call is within the step bound; it is 0 if none was answered
abbrev pub LineIsWithinBound : Plan → Line → Type 0
LineIsWithinBound p l = (l.longest ≤ bound_of p) × (l.answered ≡ 0 → l.longest ≡ 0)

-- the report is one history of the plan's scripts from the start, with its replies and its last
-- store; each caller's line agrees with its entries and its ending, and its longest call is within
-- the step bound
pub record IsLegal (p : Plan) (s : Start) (r : Report) : Type 0 where
  pub in_order : StandInOrder p s r
  pub open_calls : CountOpenCalls p r
  pub by_sequence : StandBySequence p s r
  pub replies : RepliesAreSerial p s r
  pub final_store : IsFinalStore p s r
  pub endings : (c : ℕ) → c < p.callers
      → HasEndState (caller_line r c).state (caller_line r c).answered (scripts_left p s c)
      r.seq p.limit
  pub within_bound : All (LineIsWithinBound p) r.callers
