use Rattle.std.proofs.Common.{◌∙◌, ap, length, refl, None}
use Rattle.std.proofs.lemmas.List.{length-replicate}
use Rattle.of_mem.specs.Meaning.{IsSoundMeaning}
use Rattle.of_mem.specs.Part.{Part}
use Rattle.of_core.specs.Table.{Setup, setup_of, first_operation_cell}
use Rattle.of_core.proofs.Puts.{sound_at, zeros_agree}
use Rattle.of_core.proofs.machine.Machine.open_reading.Goals as goal

pub returns-clause-knows : goal.returns-clause-knows
returns-clause-knows g c =
    let laws = g.met.W.Work in
    let i = c.self.invariant in
    let M = g.W.Work.meaning c.self.inside.work in
    let S : Setup = setup_of c.self.inside.shape.callers c.self.inside.shape.cells c.self.inside.limit M in
    let L = g.W.Work.lawful c.self.inside.work in
    let sound : IsSoundMeaning M L (first_operation_cell S) S.cells = sound_at S M L _ _ i.fit.callers i.fit.cells refl (laws.sound c.self.inside.work) in
    rw c.clear.ensures (zeros_agree M L (first_operation_cell S) S.cells sound (length c.self.inside.part.known))

pub returns-clause-owes : goal.returns-clause-owes
returns-clause-owes g c = λ reads. record {
  at_load = (0, refl);
  reads = λ _. rw (← c.self.view_is) at reads;
  some = rw (← c.self.view_is) at c.requires.some;
  size = ap (λ (p : Part). length p.known) c.clear.ensures ∙ length-replicate (length c.self.inside.part.known) None ∙ c.self.invariant.fit.known;
  knows = returns-clause-knows g c;
}
