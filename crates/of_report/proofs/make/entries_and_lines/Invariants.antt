use Rattle.std.proofs.Common.{◌≡◌, ℕ, List, length, map}
use Rattle.std.specs.Prelude.{All, flat_map}
use Rattle.std.specs.List.{range_with_len}
use Rattle.of_plan.specs.Report.{Entry, Start}
use Rattle.of_eval.specs.Record.{line_for}
use Rattle.of_report.specs.Report.{entry_value, HasWholeReply}
use Rattle.of_report.specs.Found.{AreOwn}
use Rattle.of_report.proofs.make.entries_and_lines.Given as goal

-- the entries and the lines of the callers so far
abbrev pub invariant-loop-caller : goal.invariant-loop-caller
invariant-loop-caller l =
    All HasWholeReply l.entries.items
    × ((s : Start) (own : ℕ → List Entry) → s.finished ≡ l.done → AreOwn l.plan s l.ended own
    → (map entry_value l.entries.items ≡ flat_map own (range_with_len 0 l.caller))
    × (l.callers.items ≡ map (λ c. line_for l.ended c (length (own c))) (range_with_len 0 l.caller)))
