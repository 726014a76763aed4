use Rattle.std.proofs.Common.{◌≡◌, map, take, vec_len}
use Rattle.std.specs.Prelude.{All}
use Rattle.of_eval.specs.Record.{answer_entries}
use Rattle.of_report.specs.Report.{entry_value, HasWholeReply}
use Rattle.of_report.proofs.make.answer_entries.Given as goal

-- the entries so far
abbrev pub invariant-loop-index : goal.invariant-loop-index
invariant-loop-index l = record {
  count : vec_len l.entries ≡ l.index;
  whole : All HasWholeReply l.entries.items;
  entries : map entry_value l.entries.items ≡ answer_entries l.caller l.first (take l.index l.answers);
}
