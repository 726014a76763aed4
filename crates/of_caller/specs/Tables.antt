-- The table of a plan: what its machines have in common, and what its scripts are as operations.
use Rattle.std.specs.Prelude.{ℕ, List, map}
use Rattle.of_mem.specs.Meaning.{Meaning}
use Rattle.of_mem.specs.Places.{base_of}
use Rattle.of_mem.specs.ProgramWork.{memory_of, meaning_of}
use Rattle.of_script.specs.declared.instr.Instr.{Instr}
use Rattle.of_script.specs.declared.instr.TheConstants.{MOST_INSTRS}
use Rattle.of_script.specs.Language.{instr_word}
use Rattle.of_eval.specs.ScriptPrograms.{script_program}
use Rattle.of_eval.specs.Scripts.{StandsForSome, is_success, script_reads}
use Rattle.of_plan.specs.Plan.{Plan, data_cells}
use Rattle.of_core.specs.Table.{Setup, setup_of}
use Rattle.of_core.specs.TableMoment.{Moment, TableStart}
use Rattle.of_core.specs.Events.{opening_moment, zero_start}
use Rattle.of_core.specs.Moment.{table_word_count}

-- what operations do over the data cells of a plan
abbrev pub meaning_for : Plan → Meaning
meaning_for p =
    meaning_of is_success script_reads (script_program (base_of p.callers MOST_INSTRS) p.blocks)

-- what the machines of a plan have in common
abbrev pub plan_setup : Plan → Setup
plan_setup p = setup_of p.callers (data_cells p.callers p.blocks) p.limit (meaning_for p)

-- data cells of a plan are lawful if they stand for some store
abbrev pub IsLawfulFor : Plan → List ℕ → Type 0
IsLawfulFor p xs = StandsForSome (base_of p.callers MOST_INSTRS) p.blocks (memory_of xs)

-- the table of a plan at a start, before anything has happened
abbrev pub opening_at : Plan → TableStart → Moment
opening_at p B = opening_moment (plan_setup p) B (table_word_count (plan_setup p))

-- the table of a plan of zeros, before anything has happened
abbrev pub opening_for : Plan → Moment
opening_for p = opening_at p (zero_start (plan_setup p))

-- a script as an operation: the words of its instructions
abbrev pub operation_of : List Instr → List ℕ
operation_of script = map instr_word script
