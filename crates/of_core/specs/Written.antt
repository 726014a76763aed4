-- What a batch writes, and what becomes of it: its log is the writes of its calls, its owner's call
-- is among them, and no data cell goes back to an older word.
use Rattle.std.specs.Prelude.{ℕ, ◌+◌, ◌-◌, List, [], ◌∷◌, ◌++◌, length, Option, ◌≡◌, ◌≤◌, ◌<◌, ◌⊎◌}
use Rattle.std.proofs.Common.{get_or}
use Rattle.of_cell.specs.Words.{seq_of}
use Rattle.of_mem.specs.Meaning.{Gives, Agrees}
use Rattle.of_mem.specs.Part.{overlaid}
use Rattle.of_mem.specs.CellMap.{put_all}
use Rattle.of_core.specs.Table.{Setup, ticket_cell, data_word}
use Rattle.of_core.specs.Machine.{Call, no_call, own_cells}
use Rattle.of_core.specs.TableMoment.{Batch, TableStart, Moment}
use Rattle.of_core.specs.History.{batch_at, numbers_after}
use Rattle.of_core.specs.WordsMatch.{IsLog}
use Rattle.of_core.specs.Invariant.{MeetsInvariant}
use Rattle.of_core.specs.Events.{Event, IsSchedule, opening_moment, after_events}
use Rattle.of_core.specs.Laws.{EachSchedule}

-- a run of the call c on the state; if the log `before` has an entry for a cell, the run uses the
-- number of this entry in place of the state's
pub record RunOf (S : Setup) (state : List ℕ) (before : List (ℕ × ℕ)) (c : Call) : Type 0 where
  -- the cells of the state that the run knew
  pub known : List (Option ℕ)
  pub agrees : Agrees known state
  -- what the run wrote; the run gave the reply that the call has
  pub writes : List (ℕ × ℕ)
  pub gives : S.meaning.walk (overlaid known before) c.op ≡ Gives writes c.raw

-- the log after a call: to the entries `before` are added the call's writes, and then its caller's
-- own cells
abbrev pub with_call : Setup → (before writes : List (ℕ × ℕ)) → Call → List (ℕ × ℕ)
with_call S before writes c =
    put_all before (writes ++ own_cells (ticket_cell S c.caller) c.ticket (length c.op) c.raw)

-- the calls, run one after the other on the state, turn the log `before` into the log `after`
abbrev pub LeadTo : Setup → (state : List ℕ) → (before : List (ℕ × ℕ)) → List Call
    → (after : List (ℕ × ℕ)) → Type 0
LeadTo S state before [] after = before ≡ after
LeadTo S state before (c ∷ cs) after =
    (r : RunOf S state before c) × LeadTo S state (with_call S before r.writes c) cs after

-- the log has what the calls write, run in order, and their callers' own cells, and nothing else;
-- it has no cell twice
pub record IsLogOf (S : Setup) (state : List ℕ) (cs : List Call) (log : List (ℕ × ℕ)) : Type 0 where
  pub writes : LeadTo S state [] cs log
  pub is_log : IsLog S log

-- in every schedule from every start, each batch's log is what its calls write on the state before
-- the batch (`IsLogOf`)
abbrev pub LogsAreWrites : Setup → (List ℕ → Type 0) → Type 0
LogsAreWrites S Lawful = EachSchedule S Lawful (λ B n es.
    let bs : List Batch = (after_events S (opening_moment S B n) es).batches in
    (k : ℕ) → B.seq < k → k ≤ B.seq + length bs
    → IsLogOf S (numbers_after B bs (k - 1)) (batch_at B bs k).calls (batch_at B bs k).log)

-- the batch has a call of its owner
abbrev pub HasOwnCall : Batch → Type 0
HasOwnCall b =
    (y : ℕ) × (y < length b.calls) × ((get_or b.calls y no_call).caller ≡ b.owner)

-- in every schedule from every start each batch has a call of its owner
abbrev pub OwnersTakePart : Setup → (List ℕ → Type 0) → Type 0
OwnersTakePart S Lawful = EachSchedule S Lawful (λ B n es.
    let bs : List Batch = (after_events S (opening_moment S B n) es).batches in
    (k : ℕ) → B.seq < k → k ≤ B.seq + length bs → HasOwnCall (batch_at B bs k))

-- from one moment to a later one, a data cell keeps its word or gets one of a later transaction: a
-- helper never writes an older number, however late it comes
abbrev pub CellsRise : Setup → (List ℕ → Type 0) → Type 0
CellsRise S Lawful =
    (B : TableStart) (w : Moment) → MeetsInvariant S Lawful B w → (es : List Event)
    → IsSchedule S w es →
    let v : Moment = after_events S w es in
    (a : ℕ) → a < S.cells
    → (data_word S v.words a ≡ data_word S w.words a)
    ⊎ (seq_of (data_word S w.words a) < seq_of (data_word S v.words a))
