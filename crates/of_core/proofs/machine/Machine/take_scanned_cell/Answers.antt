use Rattle.std.proofs.Common.{◌≡◌, ◌≤◌, ◌∙◌, arith, ap, length, refl, length-set}
use Rattle.of_cell.specs.Words.{seq_of}
use Rattle.of_mem.specs.Part.{Part}
use Rattle.of_mem.specs.Meaning.{IsSoundMeaning}
use Rattle.of_core.specs.Table.{Setup, setup_of, first_operation_cell}
use Rattle.of_core.specs.MachineValue.{machine_setup}
use Rattle.of_core.specs.Fit.{is_scanning}
use Rattle.of_core.proofs.Puts.{sound_at}
use Rattle.of_core.proofs.Allows.{script_some, cell_agrees}
use Rattle.of_core.proofs.OwedRuns.{owes_script}
use Rattle.of_core.proofs.machine.Machine.take_scanned_cell.Goals as goal

pub returns-clause-owes : goal.returns-clause-owes
returns-clause-owes g c = λ _.
    let now = c.args.self.now in
    let S : Setup = machine_setup g.W.Work.meaning now in
    let L = g.W.Work.lawful now.work in
    let here = c.requires.here in
    let f = c.self.invariant.fit in
    let laws = g.met.W.Work in
    let old : seq_of c.args.found ≤ now.call.seq = rw (← c.self.view_is) (omega arith) in
    let inner : Setup = setup_of c.self.inside.shape.callers c.self.inside.shape.cells c.self.inside.limit (g.W.Work.meaning c.self.inside.work) in
    let sound : IsSoundMeaning S.meaning L (first_operation_cell S) S.cells = rw (← c.self.view_is) (sound_at inner (g.W.Work.meaning c.self.inside.work) (g.W.Work.lawful c.self.inside.work) _ _ f.callers f.cells refl (laws.sound c.self.inside.work)) in
    let agrees = cell_agrees S L now.call c.args.found c.requires.good sound c.args.addr here old in
    owes_script g.W.Work.meaning g.W.Work.lawful _ c.args.addr (rw (← c.self.view_is) at here)
    (rw (← c.self.view_is) at (script_some S L now.call c.args.found c.requires.good c.args.addr here))
    (ap (λ (p : Part). length p.known) c.learn.ensures ∙ length-set c.self.inside.part.known _ _ ∙ f.known)
    (rw (c.learn.ensures, c.payload_of.ensures) (rw (← c.self.view_is) at agrees))

pub returns-clause-kind : goal.returns-clause-kind
returns-clause-kind g c = λ _. rw (← c.self.view_is) at (ap is_scanning c.requires.here)
