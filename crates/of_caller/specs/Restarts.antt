-- Where a run ends: the start that recovery finds in the durable words that the run leaves.
use Rattle.std.specs.Prelude.{◌≡◌, ℕ, ◌+◌, ◌≤◌, ◌<◌, ◌⊎◌, IsTrue, List, length, All, Any}
use Rattle.of_recover.specs.Recovered.{recovered_words}
use Rattle.of_mem.specs.Places.{ticket_cell_at}
use Rattle.of_script.specs.declared.instr.Reply.{Reply}
use Rattle.of_script.specs.declared.instr.TheConstants.{MOST_INSTRS}
use Rattle.of_store.specs.Replies.{reply_value_of}
use Rattle.of_eval.specs.Shapes.{IsHeldBy}
use Rattle.of_eval.specs.Lawful.{reply_in, DataCellsStandFor}
use Rattle.of_eval.specs.Record.{plan_data_cells, IsLawfulRecord}
use Rattle.of_plan.specs.Plan.{Plan}
use Rattle.of_plan.specs.Report.{Entry, Start, Report, entries_of, finished_of}
use Rattle.of_plan.specs.Ended.{Ended}
use Rattle.of_core.specs.TableMoment.{Moment, TableStart}
use Rattle.of_core.specs.Starts.{start_from_durable, IsDurable, IsStartRow}
use Rattle.of_caller.specs.Tables.{plan_setup, IsLawfulFor}
use Rattle.of_caller.specs.Starts.{start_number}
use Rattle.of_row.specs.Views.{View}
use Rattle.of_caller.specs.Runs.{IsRunOfPlan}
use Rattle.of_caller.specs.Teams.{IsTeamOf}

-- the entry was announced, and the caller's own cells hold the entry's ticket and reply
pub record IsHeldIn (m : ℕ → ℕ) (caller : ℕ) (e : Entry) : Type 0 where
  pub announced : IsTrue e.announced
  pub ticket : m (ticket_cell_at MOST_INSTRS caller) ≡ e.index + 1
  pub reply : Reply
  pub held : IsHeldBy (reply_in MOST_INSTRS m caller) reply
  pub response : e.reply ≡ reply_value_of reply

-- The ticket cell of a caller holds n, or the caller's own cells hold one of these entries that was
-- announced. The cell holds at least n.
pub record HoldsLastAnnounced (m : ℕ → ℕ) (caller n : ℕ) (es : List Entry) : Type 0 where
  pub from : n ≤ m (ticket_cell_at MOST_INSTRS caller)
  -- no announced entry has a higher ticket
  pub last : All (λ e. IsTrue e.announced → e.index < m (ticket_cell_at MOST_INSTRS caller)) es
  -- the cells hold an announced entry, if their ticket isn't n
  pub has : (m (ticket_cell_at MOST_INSTRS caller) ≡ n) ⊎ Any (IsHeldIn m caller) es

-- The table starts where the report of a run ends: it has the report's sequence, as many data cells
-- as the plan, and cells that stand for the report's store. Each caller's own cells hold the last
-- announced entry that the report has of the caller, if it has one (`HoldsLastAnnounced`).
pub record StartsAfterReport (p : Plan) (s : Start) (r : Report) (B : TableStart) : Type 0 where
  pub seq : B.seq ≡ r.seq
  pub size : length B.cells ≡ plan_data_cells p
  pub stands : DataCellsStandFor p.callers MOST_INSTRS p.blocks (start_number B) r.store
  pub callers : (c : ℕ) → c < p.callers
      → HoldsLastAnnounced (start_number B) c (finished_of s c) (entries_of r c)

-- a table may start from what recovery makes of the durable words that this record leaves, and this
-- start is where the report ends
abbrev pub MayRestartAfter : Plan → Start → Ended → Report → Type 0
MayRestartAfter p s e r =
    (row : List ℕ) → IsDurable (plan_setup p) e.words row
    → let found : List ℕ = recovered_words p.callers (plan_data_cells p) row in
    IsStartRow (plan_setup p) (IsLawfulFor p) found
    × StartsAfterReport p s r (start_from_durable p.callers (plan_data_cells p) found)

-- after each run of a plan, a table may start from the recovered durable words; this start is where
-- the run's report ends
abbrev pub RunsRestart : Type 0
RunsRestart =
    (p : Plan) (s : Start) (B : TableStart) (w : Moment) (e : Ended) → IsRunOfPlan p s B w e
    → (r : Report) → IsLawfulRecord p s e r → MayRestartAfter p s e r

-- after each team of the plan, a table may start from the recovered durable words; this start is
-- where the team's report ends
abbrev pub TeamsRestart : Plan → Type 0
TeamsRestart p =
    (s : Start) (B : TableStart) (e : Ended) (v : View) → IsTeamOf p s B e v
    → (r : Report) → IsLawfulRecord p s e r → MayRestartAfter p s e r
