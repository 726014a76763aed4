use Rattle.std.proofs.Common.{◌≡◌, ℕ, ◌<◌, length, get_or}
use Rattle.of_mem.specs.Places.{reply_at}
use Rattle.of_script.specs.declared.instr.TheConstants.{MOST_INSTRS}
use Rattle.of_report.specs.Found.{number_in}
use Rattle.of_report.proofs.data_cells.reply.Given as goal

-- the numbers so far
abbrev pub invariant-loop-place : goal.invariant-loop-place
invariant-loop-place l = record {
  long : length l.values ≡ MOST_INSTRS;
  each : (k : ℕ) → k < l.place → get_or l.values k 0 ≡ number_in l.words (reply_at MOST_INSTRS l.caller k);
}
