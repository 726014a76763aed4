use Rattle.std.proofs.Common.{◌∙◌, [], refl, ap}
use Rattle.of_mem.specs.Part.{Part}
use Rattle.of_mem.specs.ProgramWork.{walk_of_run}
use Rattle.of_eval.specs.Scripts.{is_success}
use Rattle.of_eval.proofs.Overlay.{kept_when, dropped_when}
use Rattle.of_eval.proofs.walk.run_to_reply.Goals as goal

pub returns-then-not-ended-clause-ends : goal.returns-then-not-ended-clause-ends
returns-then-not-ended-clause-ends c =
    ap (walk_of_run is_success) c.in-Ok.ensures.runs.walk
    ∙ dropped_when c.run_words.new.out c.run_words.new.part c.undo.new.self (c.in-Ok.ensures.ended ∙ c.if-not-ended.true) (ap (λ (p : Part). p.script) c.undo.ensures)

pub returns-else-not-ended-clause-ends : goal.returns-else-not-ended-clause-ends
returns-else-not-ended-clause-ends c =
    ap (walk_of_run is_success) c.in-Ok.ensures.runs.walk
    ∙ kept_when c.run_words.new.out c.run_words.new.part c.run_words.new.part (c.in-Ok.ensures.ended ∙ c.if-not-ended.false) refl

pub returns-in-Err-clause-holds : goal.returns-in-Err-clause-holds
returns-in-Err-clause-holds c = c.keep_sought.ensures.holds (record c.args.part.now { script = [] }) c.in-Err.ensures.holds
