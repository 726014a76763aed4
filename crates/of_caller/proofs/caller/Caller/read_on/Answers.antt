use Rattle.std.proofs.Common.{◌∙◌, sym, subst, refl, true}
use Rattle.of_core.specs.declared.place.Place.{Place}
use Rattle.of_core.specs.Machine.{IsOpen}
use Rattle.of_caller.specs.Going.{true_caller}
use Rattle.of_caller.proofs.Loadings.{run_op}
use Rattle.of_caller.proofs.Phases.{err_then, kept_op}
use Rattle.of_caller.proofs.caller.Caller.read_on.Goals as goal

pub run_on_cells-requires-clause-kind : goal.run_on_cells-requires-clause-kind
run_on_cells-requires-clause-kind g c = (rw c.in-Some.is at c.in_ok-turn_owing.ensures.kind) refl ∙ c.requires.reads

pub run_on_cells-requires-clause-words : goal.run_on_cells-requires-clause-words
run_on_cells-requires-clause-words g c =
    let t = c.turn_owing.new in
    c.requires.op ∙ sym (kept_op g.W.Work.meaning g.W.Work.lawful g.B.Brake.denials g.B.Brake.left g.B.Brake.answers g.B.Brake.asks c.args.row.now c.args.self.now c.args.brake.now c.args.steps.now (true_caller g.W.Work.meaning true t.self) t.brake t.steps c.requires.caller (subst (λ (p : Place). IsOpen p) c.requires.here c.requires.open) (rw c.in-Some.is at c.in_ok-turn_owing.ensures.goes)) ∙ run_op g.W.Work.meaning t.self.machine

pub returns-in-Some-clause-denied : goal.returns-in-Some-clause-denied
returns-in-Some-clause-denied g c = err_then c.run_on_cells.result _ _ c.run_on_cells.ensures.denied (λ q c0 b0 s0 h. q c0 b0 s0 ((rw c.in-Some.is at c.in_ok-turn_owing.ensures.goes) c0 b0 s0 h))
