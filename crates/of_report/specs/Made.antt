-- What is made of a run: the entries and the lines of its callers, and the report.
use Rattle.std.specs.Prelude.{◌≡◌, ℕ, ◌+◌, ◌==◌, List, Option, length, map, flat_map}
use Rattle.std.specs.List.{range_with_len}
use Rattle.std.specs.Option.{option_to_list}
use Rattle.of_mem.specs.Places.{ticket_cell_at}
use Rattle.of_script.specs.declared.instr.TheConstants.{MOST_INSTRS}
use Rattle.of_plan.specs.declared.answer.Ending.{Ending}
use Rattle.of_plan.specs.Plan.{Plan}
use Rattle.of_plan.specs.Ended.{Ended}
use Rattle.of_plan.specs.Report as plain
use Rattle.of_plan.specs.Report.{Start, finished_of}
use Rattle.of_eval.specs.Record.{record_number, BeyondAnswers, OpenCall, OwnEntries, IsLawfulRecord, line_for}
use Rattle.of_report.specs.declared.recovered_table.RecoveredTable.{RecoveredTable}
use Rattle.of_report.specs.declared.report.Entry.{Entry}
use Rattle.of_report.specs.declared.report.Report.{Report}
use Rattle.of_report.specs.Report.{entry_value, report_value}
use Rattle.of_report.specs.Found.{HasFound, AreOwn}

-- ---- the entries of one caller

-- `told` is the entry of a caller's open call of the script with this index, if recovery has found
-- the call's ticket in the caller's ticket cell; otherwise `told` is None
abbrev pub TellsOpenCall : RecoveredTable → (caller index : ℕ) → Option Entry → Type 0
TellsOpenCall f c x told =
    (p : Plan) (e : Ended) (extra : List plain.Entry) → HasFound p e f
    → OpenCall p e c x (record_number p e (ticket_cell_at MOST_INSTRS c) == x + 1) extra
    → map entry_value (option_to_list told) ≡ extra

-- `told` is the entry that a caller with this ending has beyond its answers, for an open call that
-- recovery has found; otherwise it is None
abbrev pub TellsBeyondAnswers : RecoveredTable → (caller index : ℕ) → Ending → Option Entry → Type 0
TellsBeyondAnswers f c x ending told =
    (p : Plan) (e : Ended) (extra : List plain.Entry) → HasFound p e f
    → BeyondAnswers p e c x ending extra → map entry_value (option_to_list told) ≡ extra

-- `told` are the entries of a caller; the first is to the script with the index `first`
abbrev pub TellsOwnEntries : RecoveredTable → Ended → (caller first : ℕ) → List Entry → Type 0
TellsOwnEntries f e c first told =
    (p : Plan) (s : Start) (own : List plain.Entry) → HasFound p e f → finished_of s c ≡ first
    → OwnEntries p s e c own → map entry_value told ≡ own

-- ---- all callers; `done` says how many scripts of each are done at the start

-- `told` are the entries of all callers, one caller after the other
abbrev pub TellsAllEntries : Plan → (done : List ℕ) → Ended → List Entry → Type 0
TellsAllEntries p done e told =
    (s : Start) (own : ℕ → List plain.Entry) → s.finished ≡ done → AreOwn p s e own
    → map entry_value told ≡ flat_map own (range_with_len 0 p.callers)

-- `told` are the lines of all callers, in order
abbrev pub TellsAllLines : Plan → (done : List ℕ) → Ended → List plain.Line → Type 0
TellsAllLines p done e told =
    (s : Start) (own : ℕ → List plain.Entry) → s.finished ≡ done → AreOwn p s e own
    → told ≡ map (λ c. line_for e c (length (own c))) (range_with_len 0 p.callers)

-- ---- the report

-- what the run has left is a lawful record of some report from the start
abbrev pub HasRecord : Plan → Start → Ended → Type 0
HasRecord p s e = (r : plain.Report) × IsLawfulRecord p s e r

-- `told` is the report of the record that the run has left, if this is lawful from the start
abbrev pub TellsRecord : Plan → Start → Ended → Report → Type 0
TellsRecord p s e told = (r : plain.Report) → IsLawfulRecord p s e r → report_value told ≡ r

-- what the run has left is a lawful record from some start at which each caller has done as many
-- scripts as `done` says
abbrev pub HasRecordBehind : Plan → (done : List ℕ) → Ended → Type 0
HasRecordBehind p done e =
    (s : Start) × (r : plain.Report) × (s.finished ≡ done) × IsLawfulRecord p s e r

-- `told` is the report of the record that the run has left, from every start at which each caller
-- has done as many scripts as `done` says
abbrev pub TellsRecordBehind : Plan → (done : List ℕ) → Ended → Report → Type 0
TellsRecordBehind p done e told =
    (s : Start) (r : plain.Report) → s.finished ≡ done → IsLawfulRecord p s e r
    → report_value told ≡ r
