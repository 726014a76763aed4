use Rattle.std.proofs.Common.{◌≡◌, None, drop, map}
use Rattle.of_report.specs.Report.{entry_value}
use Rattle.of_check.specs.Ends.{last_announced, entry_in}
use Rattle.of_check.proofs.Own.{own}
use Rattle.of_check.proofs.ends.last_announced.Given as goal

-- the entries that are left lead to the last one of all
abbrev pub invariant-loop-entry : goal.invariant-loop-entry
invariant-loop-entry l = last_announced (entry_in l.last) (own l.caller (map entry_value (drop l.entry-index l.entries))) ≡ last_announced None (own l.caller (map entry_value l.entries))
