use Rattle.std.proofs.Common.{◌≡◌, ◌+◌, ◌++◌, map, take, string_bytes}
use Rattle.std.specs.Prelude.{flat_map, codes, decimal}
use Rattle.of_cell.specs.Words.{seq_of}
use Rattle.of_core.specs.Inside.{call_value}
use Rattle.of_play.specs.Trace.{call_part}
use Rattle.of_play.proofs.commit_line.put_batch.Given as goal

-- the calls so far
abbrev pub invariant-loop-call : goal.invariant-loop-call
invariant-loop-call l = string_bytes l.out ≡ string_bytes l.fn.out ++ ((decimal l.fn.number ++ codes " " ++ decimal l.fn.caller ++ codes " commits " ++ decimal (seq_of l.fn.found + 1)) ++ flat_map call_part (map call_value (take l.call-index l.calls)))
