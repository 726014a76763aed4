use Rattle.std.proofs.Common.{ℕ, List, subst}
use Rattle.of_mem.specs.Places.{base_of}
use Rattle.of_mem.specs.ProgramWork.{memory_of, meaning_of}
use Rattle.of_script.specs.declared.instr.TheConstants.{MOST_INSTRS}
use Rattle.of_eval.specs.ScriptPrograms.{script_program}
use Rattle.of_eval.specs.Scripts.{StandsForSome, is_success, script_reads}
use Rattle.of_plan.specs.Plan.{data_cells}
use Rattle.of_core.specs.Laws.{RecoveredRowsMayStart}
use Rattle.of_core.specs.Table.{setup_of}
use Rattle.of_play.proofs.PlaysMoments.{playable}
use Rattle.of_tool.proofs.PlayedImages.{shows_each}
use Rattle.of_tool.proofs.laws.images_show_plays.Goals as goal

-- the law of starts at a table for scripts, of so many callers and blocks
abbrev RestartsAt : (callers blocks limit : ℕ) → Type 0
RestartsAt c b l =
    RecoveredRowsMayStart (setup_of c (data_cells c b) l (meaning_of is_success script_reads (script_program (base_of c MOST_INSTRS) b)))
    (λ (xs : List ℕ). StandsForSome (base_of c MOST_INSTRS) b (memory_of xs))

pub returns : goal.returns
returns c =
    let p = c.args.plan.now in
    let play = playable p c.plan_keeps_laws.ensures.plan c.plan_keeps_laws.ensures.laws c.plan_keeps_laws.ensures.moments c.plan_keeps_laws.ensures.zeros in
    let restarts : RestartsAt p.callers p.blocks p.limit =
    subst (λ (k : ℕ). RestartsAt p.callers p.blocks k) c.limit.ensures.value
    (subst (λ (k : ℕ). RestartsAt p.callers k c.limit.result) c.of_plan-scripts.ensures.blocks
    (subst (λ (k : ℕ). RestartsAt k c.of_plan-scripts.result.blocks c.limit.result) c.of_plan-scripts.ensures.callers c.starts.ensures.restarts)) in
    shows_each p play restarts c.records_have_images.ensures c.lives_restart.ensures c.one_image.ensures
