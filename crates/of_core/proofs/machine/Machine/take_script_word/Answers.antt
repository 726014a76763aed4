use Rattle.std.proofs.Common.{◌≡◌, ◌≤◌, ◌∙◌, ℕ, ◌+◌, List, [], ◌∷◌, ◌++◌, arith, ap, length, refl, sym, length-append}
use Rattle.of_mem.specs.Meaning.{IsSoundMeaning}
use Rattle.of_core.specs.Table.{Setup, setup_of, first_operation_cell}
use Rattle.of_core.specs.MachineValue.{machine_setup}
use Rattle.of_core.proofs.Puts.{sound_at}
use Rattle.of_core.proofs.Allows.{script_agrees}
use Rattle.of_core.proofs.OwedRuns.{owes_script}
use Rattle.of_core.proofs.machine.Machine.take_script_word.Goals as goal

pub returns-clause-owes : goal.returns-clause-owes
returns-clause-owes g c = λ _.
    let now = c.args.self.now in
    let S : Setup = machine_setup g.W.Work.meaning now in
    let L = g.W.Work.lawful now.work in
    let f = c.self.invariant.fit in
    let laws = g.met.W.Work in
    let inner : Setup = setup_of c.self.inside.shape.callers c.self.inside.shape.cells c.self.inside.limit (g.W.Work.meaning c.self.inside.work) in
    let sound : IsSoundMeaning S.meaning L (first_operation_cell S) S.cells = rw (← c.self.view_is) (sound_at inner (g.W.Work.meaning c.self.inside.work) (g.W.Work.lawful c.self.inside.work) _ _ f.callers f.cells refl (laws.sound c.self.inside.work)) in
    let agrees = script_agrees S L now.call c.args.found c.requires.good sound c.args.at c.requires.here in
    let many : length c.push_reserved.new.self.items ≡ length c.self.inside.script.items + 1 = ap length c.push_reserved.ensures.items ∙ length-append c.self.inside.script.items (c.args.found ∷ []) in
    owes_script g.W.Work.meaning g.W.Work.lawful _ 0 refl (omega (arith, many)) f.known (rw (← c.self.view_is) at agrees)
