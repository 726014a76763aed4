-- The programs of the calls that run instructions and scripts on the cells of a plot.
use Rattle.std.specs.Prelude.{ℕ, List, Result, Ok, Err}
use Rattle.of_mem.specs.declared.part.Need.{Need}
use Rattle.of_mem.specs.declared.plot.Plot.{Plot}
use Rattle.of_mem.specs.declared.work.RawReply.{RawReply}
use Rattle.of_mem.specs.Plots.{base}
use Rattle.of_mem.specs.Programs.{Program}
use Rattle.of_script.specs.declared.instr.Instr.{Instr}
use Rattle.of_eval.specs.ScriptPrograms.{InstrResult, instr_program, word_program, script_program}

abbrev pub step : Plot → Instr → Program InstrResult
step plot i = instr_program (base plot) plot.blocks i

abbrev pub run_word : Plot → ℕ → Program InstrResult
run_word plot w = word_program (base plot) plot.blocks w

abbrev pub script : Plot → List ℕ → Program RawReply
script plot op = script_program (base plot) plot.blocks op

-- the result with the reply `raw` in place of what is in Ok; an error stays as it is
abbrev pub in_cells : {A : Type 0} → RawReply → Result A Need → Result RawReply Need
in_cells raw (Ok x) = Ok raw
in_cells raw (Err need) = Err need
