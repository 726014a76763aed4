-- The entries of all lives together: one history from the start of the first life.
use Rattle.std.specs.Prelude.{◌≡◌, ℕ, ◌+◌, ◌≤◌, ◌<◌, ◌⊎◌, ◌==◌, false, IsTrue, List, ◌∷◌, ◌++◌, length, map, filter, flat_map, All, Any, AllPairs}
use Rattle.of_script.specs.declared.instr.Instr.{Instr}
use Rattle.of_script.specs.Language.{reads_only}
use Rattle.of_store.specs.Store.{replies_in_order, last_store}
use Rattle.of_plan.specs.Report.{Entry, Start, finished_of, caller_line}
use Rattle.of_plan.specs.Legal.{script_of_entry}
use Rattle.of_lives.specs.Lives.{Life, done_behind, start_behind_all, EachLife, AreLives, start_behind_spans, EachSpan, AreSpans}

-- all entries of these lives, life by life
abbrev pub entries_in : List Life → List Entry
entries_in ls = flat_map (λ l. l.report.entries) ls

-- the scripts of all entries of these lives, life by life
abbrev pub life_scripts : List Life → List (List Instr)
life_scripts ls = flat_map (λ l. map (script_of_entry l.plan) l.report.entries) ls

-- the entries of a caller, life by life
abbrev pub own_in : List Life → ℕ → List Entry
own_in ls c = filter (λ e. e.caller == c) (entries_in ls)

-- `e` was announced, by a caller of a lower number, and has the same sequence as `f`
abbrev pub IsAnnouncedBefore : Entry → Entry → Type 0
IsAnnouncedBefore e f = (e.seq ≡ f.seq) × IsTrue e.announced × (e.caller < f.caller)

-- `e` may come before `f` in one history. The sequence of `e` is lower; or both are the same, and
-- `f` wasn't announced; or both are the same, both entries were announced, and the caller of `e`
-- has the lower number.
abbrev pub ComesBefore : Entry → Entry → Type 0
ComesBefore e f =
    (e.seq ≤ f.seq)
    × (IsTrue f.announced → (e.seq < f.seq) ⊎ IsAnnouncedBefore e f)

-- if `e` was announced and `f` is of the same caller, `f` is of a later script: no announced call
-- is run again
abbrev pub ComesLater : Entry → Entry → Type 0
ComesLater e f = e.caller ≡ f.caller → IsTrue e.announced → e.index < f.index

-- the entry's sequence is at least that of `s` and at most that of `t`; if the entry was announced,
-- it is above that of `s`
abbrev pub IsBetween : (s t : Start) → Entry → Type 0
IsBetween s t e = (s.seq ≤ e.seq) × (e.seq ≤ t.seq) × (IsTrue e.announced → s.seq < e.seq)

-- the entry was announced, and has this sequence
abbrev pub IsAnnouncedAt : ℕ → Entry → Type 0
IsAnnouncedAt k e = IsTrue e.announced × (e.seq ≡ k)

-- the entry's call was not done at the start
abbrev pub IsBehind : Start → Entry → Type 0
IsBehind s e = finished_of s e.caller ≤ e.index

-- the start counts the scripts of the entry's caller
abbrev pub IsKnownTo : Start → Entry → Type 0
IsKnownTo s e = e.caller < length s.finished

-- the entry is of this caller's script with this index
abbrev pub IsCall : (caller index : ℕ) → Entry → Type 0
IsCall c x e = (e.caller ≡ c) × (e.index ≡ x)

-- no entry of this caller among these was announced
abbrev pub NoneAnnouncedOf : (caller : ℕ) → List Entry → Type 0
NoneAnnouncedOf c es = All (λ e. e.caller ≡ c → e.announced ≡ false) es

-- if the entry wasn't announced, its script only reads
abbrev pub UnannouncedOnlyReads : Life → Entry → Type 0
UnannouncedOnlyReads l e =
    e.announced ≡ false → All (λ i. IsTrue (reads_only i)) (script_of_entry l.plan e)

-- in the life, each entry that wasn't announced is of a script that only reads
abbrev pub HasReads : Start → Life → Type 0
HasReads s l = All (UnannouncedOnlyReads l) l.report.entries

-- each call that was answered in the life is an entry of the life's report; a caller's calls begin
-- with the first that wasn't done at the start
abbrev pub HasAnswered : Start → Life → Type 0
HasAnswered s l =
    (c x : ℕ) → c < l.plan.callers → finished_of s c ≤ x
    → x < finished_of s c + (caller_line l.report c).answered → Any (IsCall c x) l.report.entries

-- the entries of all lives together are one history from the first start
pub record AreOneHistory (s : Start) (ls : List Life) : Type 0 where
  -- serial replay of all lives in order gives all replies, in their order, and the last store
  pub replies : map (λ e. e.reply) (entries_in ls) ≡ replies_in_order s.store (life_scripts ls)
  pub final_store : (start_behind_all s ls).store ≡ last_store s.store (life_scripts ls)
  -- entries are in the order of their sequences; each sequence above the start's, up to the last,
  -- has an announced entry
  pub order : AllPairs ComesBefore (entries_in ls)
  pub sequences : All (IsBetween s (start_behind_all s ls)) (entries_in ls)
  pub from_start : s.seq ≤ (start_behind_all s ls).seq
  pub none_left_out :
      (k : ℕ) → s.seq < k → k ≤ (start_behind_all s ls).seq
      → Any (IsAnnouncedAt k) (entries_in ls)
  -- each announced call is there once, in its caller's order
  pub once : AllPairs ComesLater (entries_in ls)
  -- no entry is a call that was done at the start
  pub behind_start : All (IsBehind s) (entries_in ls)
  -- each call that was not done at the start and is done in the end is an entry
  pub all_done :
      (c x : ℕ) → finished_of s c ≤ x → x < finished_of (start_behind_all s ls) c
      → Any (IsCall c x) (entries_in ls)
  -- each entry is of a caller that the last start counts
  pub known : All (IsKnownTo (start_behind_all s ls)) (entries_in ls)
  -- in the end, a caller's ticket is that of its last announced call; if none was announced, it is
  -- the ticket at the start
  pub tickets :
      (c : ℕ)
      → finished_of (start_behind_all s ls) c ≡ done_behind (finished_of s c) (own_in ls c)
  -- If a call wasn't announced, and no announced call of its caller comes after it, the call isn't
  -- done: in the next life the caller goes on with this call, or with an earlier one.
  pub not_done :
      (es fs : List Entry) (e : Entry) → entries_in ls ≡ es ++ e ∷ fs
      → NoneAnnouncedOf e.caller (e ∷ fs) → finished_of (start_behind_all s ls) e.caller ≤ e.index
  -- an entry that wasn't announced is of a script that only reads
  pub reads : EachLife HasReads s ls
  -- each life has an entry for each call that it answered
  pub answered : EachLife HasAnswered s ls

-- all entries of spans, life by life
abbrev pub entries_of_spans : List (List Life) → List Entry
entries_of_spans spans = flat_map entries_in spans

-- the scripts of all entries of spans, life by life
abbrev pub scripts_of_spans : List (List Life) → List (List Instr)
scripts_of_spans spans = flat_map life_scripts spans

-- the entries of a caller in spans, life by life
abbrev pub own_in_spans : List (List Life) → ℕ → List Entry
own_in_spans spans c = filter (λ e. e.caller == c) (entries_of_spans spans)

-- the entries of all spans together are one history from the first start, though sequences begin
-- anew in each span
pub record AreOneHistoryInSpans (s : Start) (spans : List (List Life)) : Type 0 where
  -- serial replay of all lives in order gives all replies, in their order, and the last store
  pub replies : map (λ e. e.reply) (entries_of_spans spans)
      ≡ replies_in_order s.store (scripts_of_spans spans)
  pub final_store : (start_behind_spans s spans).store
      ≡ last_store s.store (scripts_of_spans spans)
  -- each announced call is there once, in its caller's order
  pub once : AllPairs ComesLater (entries_of_spans spans)
  -- no entry is a call that was done at the start
  pub behind_start : All (IsBehind s) (entries_of_spans spans)
  -- each call that was not done at the start and is done in the end is an entry
  pub all_done :
      (c x : ℕ) → finished_of s c ≤ x → x < finished_of (start_behind_spans s spans) c
      → Any (IsCall c x) (entries_of_spans spans)
  -- each entry is of a caller that the last start counts
  pub known : All (IsKnownTo (start_behind_spans s spans)) (entries_of_spans spans)
  -- in the end, a caller's ticket is that of its last announced call; if none was announced, it is
  -- the ticket at the start
  pub tickets :
      (c : ℕ)
      → finished_of (start_behind_spans s spans) c
      ≡ done_behind (finished_of s c) (own_in_spans spans c)
  -- if a call wasn't announced, and no announced call of its caller comes after it, the call isn't
  -- done
  pub not_done :
      (es fs : List Entry) (e : Entry) → entries_of_spans spans ≡ es ++ e ∷ fs
      → NoneAnnouncedOf e.caller (e ∷ fs)
      → finished_of (start_behind_spans s spans) e.caller ≤ e.index
  -- the lives of each span are one history, by their sequences too
  pub each : EachSpan AreOneHistory s spans

-- the entries of any list of spans, from any start, are one history
abbrev pub SpansAreOneHistory : Type 0
SpansAreOneHistory =
    (s : Start) (spans : List (List Life)) → AreSpans s spans → AreOneHistoryInSpans s spans

-- the entries of any list of lives, from any start, are one history
abbrev pub LivesAreOneHistory : Type 0
LivesAreOneHistory = (s : Start) (ls : List Life) → AreLives s ls → AreOneHistory s ls
