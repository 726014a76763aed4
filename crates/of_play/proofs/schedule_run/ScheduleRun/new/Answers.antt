use Rattle.std.proofs.Common.{◌≡◌, ℕ, zero, suc, List, [], ◌∷◌, ◌++◌, length, map, get_or, refl, arith, ap, ◌∙◌, length-append}
use Rattle.of_plan.specs.declared.answer.Answer.{Answer}
use Rattle.of_mem.specs.declared.work.TheConstants.{MOST_INSTRS}
use Rattle.of_mem.specs.Places.{base_of}
use Rattle.of_mem.specs.ProgramWork.{meaning_of}
use Rattle.of_eval.specs.ScriptPrograms.{script_program}
use Rattle.of_eval.specs.Scripts.{is_success, script_reads, scripts_meaning}
use Rattle.of_plan.specs.Plan.{data_cells}
use Rattle.of_core.specs.Moment.{bank_setup}
use Rattle.of_core.specs.Table.{setup_of}
use Rattle.of_caller.specs.Tables.{plan_setup, meaning_for}
use Rattle.of_play.proofs.PlaysEnds.{start_stands}
use Rattle.of_play.proofs.schedule_run.ScheduleRun.new.Goals as goal

none_more : {X : Type 0} (items : X → List Answer) (xs : List X) (v : X) → items v ≡ [] → ((c : ℕ) → get_or (map items xs) c [] ≡ []) → (c : ℕ) → get_or (map items (xs ++ v ∷ [])) c [] ≡ []
none_more items [] v e h zero = e
none_more items [] v e h (suc c) = refl
none_more items (x ∷ xs) v e h zero = h 0
none_more items (x ∷ xs) v e h (suc c) = none_more items xs v e (λ d. h (suc d)) c

pub loop-caller-preserved : goal.loop-caller-preserved
loop-caller-preserved c =
    let inv = c.loop-caller.invariant in
    let pushed = c.in_ok-push.ensures.items in
    record {
      answers = ap length pushed ∙ length-append c.loop-caller.answers.items _ ∙ omega (arith, inv.answers);
      none = rw pushed (none_more (λ v. v.items) c.loop-caller.answers.items _ c.in_ok-with_capacity.ensures.items inv.none);
    }

pub returns-clause-stands : goal.returns-clause-stands
returns-clause-stands c =
    let p = c.args.plan.now in
    let b = c.in_ok-bank in
    let many = c.of_plan-scripts.ensures.callers in
    let room = c.of_plan-scripts.ensures.blocks in
    let callers : b.bank.callers ≡ p.callers = b.ensures.callers ∙ c.shape.ensures.callers in
    let cells : b.bank.cells ≡ data_cells p.callers p.blocks = b.ensures.cells ∙ c.shape.ensures.cells in
    let limit : b.bank.limit ≡ p.limit = b.ensures.limit ∙ c.limit.ensures.value in
    let meaning : scripts_meaning b.bank.work ≡ meaning_for p = ap scripts_meaning b.ensures.work ∙ (λ i. meaning_of is_success script_reads (script_program (base_of (many i) MOST_INSTRS) (room i))) in
    let same : bank_setup scripts_meaning b.bank ≡ plan_setup p = λ i. setup_of (callers i) (cells i) (limit i) (meaning i) in
    let all : c.loop-caller.caller ≡ p.callers = omega (arith, c.callers-caller-end.ensures.value) in
    start_stands p _ callers same b.ensures.words b.ensures.machines (c.loop-caller.invariant.answers ∙ all) c.loop-caller.invariant.none
