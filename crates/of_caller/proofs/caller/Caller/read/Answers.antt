use Rattle.std.proofs.Common.{◌∙◌, sym, subst, refl}
use Rattle.of_core.specs.declared.place.Place.{Place}
use Rattle.of_core.specs.Machine.{IsOpen}
use Rattle.of_caller.proofs.Phases.{err_then, kept_op}
use Rattle.of_caller.proofs.caller.Caller.read.Goals as goal

pub read_on-requires-clause-op : goal.read_on-requires-clause-op
read_on-requires-clause-op g c =
    let t = c.turn.new in
    c.requires.op ∙ sym (kept_op g.W.Work.meaning g.W.Work.lawful g.B.Brake.denials g.B.Brake.left g.B.Brake.answers g.B.Brake.asks c.args.row.now c.args.self.now c.args.brake.now c.args.steps.now t.self t.brake t.steps c.requires.caller (subst (λ (p : Place). IsOpen p) c.requires.here refl) c.in_ok-turn.ensures.goes)

pub returns-clause-denied : goal.returns-clause-denied
returns-clause-denied g c = err_then c.read_on.result _ _ c.read_on.ensures.denied (λ q c0 b0 s0 h. q c0 b0 s0 (c.in_ok-turn.ensures.goes c0 b0 s0 h))
