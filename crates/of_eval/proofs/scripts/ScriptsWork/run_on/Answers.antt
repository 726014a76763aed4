use Rattle.std.proofs.Common.{◌≡◌, ◌∙◌, ℕ, List, [], Err, refl, sym, ap, subst}
use Rattle.of_mem.specs.Part.{Part}
use Rattle.of_mem.specs.Places.{base_of}
use Rattle.of_mem.specs.Plots.{base}
use Rattle.of_mem.specs.Programs.{NeedsAt}
use Rattle.of_eval.specs.Calls.{script}
use Rattle.of_eval.specs.Resuming.{HoldsScript, MayResume}
use Rattle.of_eval.specs.Stored.{HasState}
use Rattle.of_eval.proofs.Resumed.{holds_so}
use Rattle.of_eval.proofs.Overlay.{state_on, runs_on}
use Rattle.of_eval.proofs.scripts.ScriptsWork.run_on.Goals as goal

-- without the script's writes the memory is as it was
back : (p q : Part) (es : List (ℕ × ℕ)) → q ≡ record p { script = es } → p.script ≡ [] → record q { script = [] } ≡ p
back p q es resumed none = ap (λ (x : Part). record x { script = [] }) resumed ∙ (λ i. record p { script = sym none i })

pub reach-requires-clause-stands : goal.reach-requires-clause-stands
reach-requires-clause-stands c = subst (HasState c.plot-plot.result) (sym (back c.args.part.now c.resume.new.part c.resume.new.kept.writes c.resume.ensures.part c.requires.empty)) (state_on c.args.self.now c.args.part.now c.requires.agrees c.requires.cells c.requires.empty c.plot-plot.result (λ i. base_of (c.plot-plot.ensures.callers i) (c.plot-plot.ensures.instrs i)) c.plot-plot.ensures.blocks)

pub reach-requires-clause-goes : goal.reach-requires-clause-goes
reach-requires-clause-goes c = subst (MayResume (base c.plot-plot.result) c.plot-plot.result.blocks c.resume.new.kept) (sym (back c.args.part.now c.resume.new.part c.resume.new.kept.writes c.resume.ensures.part c.requires.empty)) c.resume.ensures.goes

pub returns-in-Err-clause-holds : goal.returns-in-Err-clause-holds
returns-in-Err-clause-holds c = holds_so c.plot-plot.result c.resume.new.kept c.args.part.now c.args.op.now c.resume.ensures.of c.plot-plot.ensures.instrs c.resume.ensures.goes

pub returns-in-Err-clause-walk : goal.returns-in-Err-clause-walk
returns-in-Err-clause-walk c =
    runs_on c.args.self.now c.args.part.now c.requires.agrees c.requires.cells c.requires.empty c.plot-plot.result (λ i. base_of (c.plot-plot.ensures.callers i) (c.plot-plot.ensures.instrs i)) c.plot-plot.ensures.blocks c.args.op.now
    (record c.resume.new.part { script = [] }) (back c.args.part.now c.resume.new.part c.resume.new.kept.writes c.resume.ensures.part c.requires.empty)
    (Err c.in-Err.need) c.undo.new.self.script c.args.out.now c.args.out.now
    tt (subst (λ (ws : List ℕ). NeedsAt (script c.plot-plot.result ws) (record c.resume.new.part { script = [] }) c.in-Err.need.addr) c.resume.ensures.of.words c.in-Err.ensures.needs)
    (ap (λ (p : Part). p.script) c.undo.ensures) refl

pub run_to_reply-requires-clause-stands : goal.run_to_reply-requires-clause-stands
run_to_reply-requires-clause-stands c = rw c.reach.ensures.part (subst (HasState c.plot-plot.result) (sym (back c.args.part.now c.resume.new.part c.resume.new.kept.writes c.resume.ensures.part c.requires.empty)) (state_on c.args.self.now c.args.part.now c.requires.agrees c.requires.cells c.requires.empty c.plot-plot.result (λ i. base_of (c.plot-plot.ensures.callers i) (c.plot-plot.ensures.instrs i)) c.plot-plot.ensures.blocks))

pub run_to_reply-requires-clause-goes : goal.run_to_reply-requires-clause-goes
run_to_reply-requires-clause-goes c = rw c.reach.ensures.part (subst (MayResume (base c.plot-plot.result) c.plot-plot.result.blocks c.resume.new.kept) (sym (back c.args.part.now c.resume.new.part c.resume.new.kept.writes c.resume.ensures.part c.requires.empty)) c.resume.ensures.goes)

pub returns-clause-walk : goal.returns-clause-walk
returns-clause-walk c =
    runs_on c.args.self.now c.args.part.now c.requires.agrees c.requires.cells c.requires.empty c.plot-plot.result (λ i. base_of (c.plot-plot.ensures.callers i) (c.plot-plot.ensures.instrs i)) c.plot-plot.ensures.blocks c.args.op.now
    (record c.reach.new.part { script = [] }) (back c.args.part.now c.reach.new.part c.resume.new.kept.writes (c.reach.ensures.part ∙ c.resume.ensures.part) c.requires.empty)
    c.run_to_reply.result c.run_to_reply.new.part.script c.args.out.now c.run_to_reply.new.out
    c.run_to_reply.ensures.ends c.run_to_reply.ensures.needs c.run_to_reply.ensures.undone c.run_to_reply.ensures.out

pub returns-clause-holds : goal.returns-clause-holds
returns-clause-holds c = subst (HoldsScript c.run_to_reply.new.kept) (back c.args.part.now c.reach.new.part c.resume.new.kept.writes (c.reach.ensures.part ∙ c.resume.ensures.part) c.requires.empty) c.run_to_reply.ensures.holds
