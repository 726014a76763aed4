-- The plan that is made for a load.
use Rattle.std.specs.Prelude.{ℕ, ◌+◌, ◌*◌, ◌%◌, List, [], ◌∷◌, map, replicate, None}
use Rattle.std.specs.List.{range_with_len}
use Rattle.of_script.specs.declared.instr.Instr.{Instr}
use Rattle.of_script.specs.declared.instr.Instr.TheVariants.{Add, Put}
use Rattle.of_cell.specs.declared.word.TheConstants.{GREATEST_LIMIT}
use Rattle.of_plan.specs.declared.plan.TheConstants.{MOST_PLAN_BLOCKS}
use Rattle.of_plan.specs.Plan.{Plan}

-- the script of a caller by its index: it adds 1 to a register, and puts its index at one of 31
-- keys that only this caller uses
abbrev pub load_script : (caller index : ℕ) → List Instr
load_script t i = Add (i % 16) 1 ∷ Put (31 * t + i % 31) i ∷ []

-- a caller's first `count` scripts
abbrev pub load_scripts : (count caller : ℕ) → List (List Instr)
load_scripts m t = map (load_script t) (range_with_len 0 m)

-- each caller has this many scripts, on as many blocks as a plan may have; there is no stop and no
-- schedule
abbrev pub generated_plan : (callers scripts : ℕ) → Plan
generated_plan n m = record {
  callers = n;
  blocks = MOST_PLAN_BLOCKS;
  limit = GREATEST_LIMIT;
  scripts = map (load_scripts m) (range_with_len 0 n);
  stops = replicate n None;
  schedule = [];
}
