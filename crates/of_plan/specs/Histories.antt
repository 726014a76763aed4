-- Histories of a plan's calls, sequence by sequence, and the report that is put together of one.
use Rattle.std.specs.Prelude.{◌≡◌, ℕ, ◌+◌, ◌-◌, ◌≤◌, ◌<◌, ◌⊎◌, ◌==◌, ◌&&◌, not, Bool, true, false, IsTrue, List, [], ◌∷◌, ◌++◌, length, map, filter, flat_map, slice_index_or, All, AllPairs}
use Rattle.std.specs.List.{range_with_len, AllByRecursion as Each}
use Rattle.of_script.specs.Language.{reads_only}
use Rattle.of_store.specs.Store.{Store, replies_in_order, last_store, run}
use Rattle.of_plan.specs.Plan.{Plan}
use Rattle.of_plan.specs.Report.{Entry, Line, no_line, Report, Start, entries_of, finished_of}
use Rattle.of_plan.specs.Legal.{script_of_entry, scripts_left, StandsBefore, HasOpenCall, HasEndState, LineIsWithinBound, IsLegal}

-- `x` is an element of the list
abbrev pub IsIn : {A : Type 0} → A → List A → Type 0
IsIn x [] = ⊥
IsIn x (y ∷ ys) = (y ≡ x) ⊎ IsIn x ys

-- the last sequence, the announced entries of each sequence, each caller's entries in the order of
-- its calls, and the store after each sequence
pub record History : Type 0 where
  pub last : ℕ
  pub runs : ℕ → List Entry
  pub own : ℕ → List Entry
  pub stores : ℕ → Store

-- Sequence k has at least one announced entry. Its announced entries are by caller, of callers of
-- the plan, and among their callers' own entries. Serial replay of them, from the store after
-- sequence k - 1, gives their replies and leads to the store after k.
pub record IsBatch (p : Plan) (h : History) (k : ℕ) : Type 0 where
  pub some : 0 < length (h.runs k)
  pub each : Each (λ e. (e.seq ≡ k) × (e.announced ≡ true) × (e.caller < p.callers)
      × IsIn e (h.own e.caller)) (h.runs k)
  pub by_caller : AllPairs (λ e f. e.caller < f.caller) (h.runs k)
  pub replies : map (λ e. e.reply) (h.runs k)
      ≡ replies_in_order (h.stores (k - 1)) (map (script_of_entry p) (h.runs k))
  pub leads : last_store (h.stores (k - 1)) (map (script_of_entry p) (h.runs k)) ≡ h.stores k

-- The history has this entry. If it was announced, it is among the announced entries of its
-- sequence, which is above the start's. If it is a read, its script only reads, and its reply is
-- that of the script on the store after its sequence.
abbrev pub EntryHasPlace : Plan → Start → History → Entry → (announced : Bool) → Type 0
EntryHasPlace p s h e true = (s.seq < e.seq) × IsIn e (h.runs e.seq)
EntryHasPlace p s h e false =
    All (λ i. IsTrue (reads_only i)) (script_of_entry p e)
    × (e.reply ≡ (run (h.stores e.seq) (script_of_entry p e)).1)

-- The entries of caller c are of its scripts from the first one that isn't done, one after the
-- other, and are ordered as in a report. Each has a sequence from the start's up to the last one,
-- and the history has it (`EntryHasPlace`).
pub record IsOwn (p : Plan) (s : Start) (h : History) (c : ℕ) : Type 0 where
  pub each : Each (λ e. (e.caller ≡ c) × (s.seq ≤ e.seq) × (e.seq ≤ h.last)
      × EntryHasPlace p s h e e.announced) (h.own c)
  pub indices : map (λ e. e.index) (h.own c) ≡ range_with_len (finished_of s c) (length (h.own c))
  pub few : length (h.own c) ≤ scripts_left p s c
  pub order : AllPairs StandsBefore (h.own c)

-- The store after the start's sequence is the start's. Each later sequence, up to the last one, is
-- a batch that leads from the store before it to the store after it. Each caller of the plan has
-- its own entries.
pub record IsHistory (p : Plan) (s : Start) (h : History) : Type 0 where
  pub from : s.seq ≤ h.last
  pub begins : h.stores s.seq ≡ s.store
  pub batches : (k : ℕ) → s.seq < k → k ≤ h.last → IsBatch p h k
  pub own : (c : ℕ) → c < p.callers → IsOwn p s h c

-- the reads at sequence k, by caller and index
abbrev pub reads_at : Plan → History → ℕ → List Entry
reads_at p h k =
    flat_map (λ c. filter (λ e. not e.announced && (e.seq == k)) (h.own c))
    (range_with_len 0 p.callers)

-- the reads of the start's store, and then sequence by sequence the announced entries and the reads
abbrev pub history_entries : Plan → Start → History → List Entry
history_entries p s h =
    reads_at p h s.seq
    ++ flat_map (λ k. h.runs k ++ reads_at p h k) (range_with_len (s.seq + 1) (h.last - s.seq))

-- the report of a history, with these lines for the callers
abbrev pub history_report : Plan → Start → History → List Line → Report
history_report p s h lines = record {
  entries = history_entries p s h;
  callers = lines;
  seq = h.last;
  store = h.stores h.last;
}

-- a caller's line counts the caller's entries and agrees with how the caller ended, and the
-- caller's longest call is within the step bound
pub record FitsLine (p : Plan) (s : Start) (h : History) (c : ℕ) (l : Line) : Type 0 where
  pub entries : l.entries ≡ length (h.own c)
  pub open_call : HasOpenCall l.state l.answered l.entries
  pub ending : HasEndState l.state l.answered (scripts_left p s c) h.last p.limit
  pub within : LineIsWithinBound p l

-- each caller has a line, which fits the history
pub record LinesFit (p : Plan) (s : Start) (h : History) (lines : List Line) : Type 0 where
  pub each_caller : length lines ≡ p.callers
  pub each : (c : ℕ) → c < p.callers → FitsLine p s h c (slice_index_or lines c no_line)

-- if each caller has a line that fits a history, the report of this history with these lines is
-- legal, and its entries of a caller are the caller's
abbrev pub HistoriesAreLegal : Plan → Start → Type 0
HistoriesAreLegal p s =
    (h : History) (lines : List Line) → IsHistory p s h → LinesFit p s h lines
    → IsLegal p s (history_report p s h lines)
    × ((c : ℕ) → c < p.callers → entries_of (history_report p s h lines) c ≡ h.own c)
