-- The laws at the numbers of a plan.
use Rattle.std.proofs.Common.{◌≡◌, ℕ, List, subst}
use Rattle.of_mem.specs.Places.{base_of}
use Rattle.of_mem.specs.ProgramWork.{memory_of, meaning_of}
use Rattle.of_script.specs.declared.instr.TheConstants.{MOST_INSTRS}
use Rattle.of_eval.specs.ScriptPrograms.{script_program}
use Rattle.of_eval.specs.Scripts.{StandsForSome, is_success, script_reads}
use Rattle.of_plan.specs.Plan.{Plan, data_cells}
use Rattle.of_core.specs.Table.{Setup, setup_of}
use Rattle.of_caller.specs.Tables.{plan_setup, IsLawfulFor}

-- a law at a table for scripts, of so many callers and blocks
abbrev pub IsAt : (Setup → (List ℕ → Type 0) → Type 0) → (callers blocks limit : ℕ) → Type 0
IsAt P c b l =
    P (setup_of c (data_cells c b) l (meaning_of is_success script_reads (script_program (base_of c MOST_INSTRS) b)))
    (λ (xs : List ℕ). StandsForSome (base_of c MOST_INSTRS) b (memory_of xs))

-- where the numbers are a plan's, it holds at the plan's table
pub at_plan : (p : Plan) (c b l : ℕ) → c ≡ p.callers → b ≡ p.blocks → l ≡ p.limit → (P : Setup → (List ℕ → Type 0) → Type 0) → IsAt P c b l → P (plan_setup p) (IsLawfulFor p)
at_plan p c b l callers blocks limit P h =
    subst (λ (k : ℕ). IsAt P p.callers p.blocks k) limit (subst (λ (k : ℕ). IsAt P p.callers k l) blocks (subst (λ (k : ℕ). IsAt P k b l) callers h))
